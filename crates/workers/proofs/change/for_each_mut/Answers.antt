use mathlib.Core.Path.{refl}
use Prim.Native.Nat.{◌+◌}
use native.Mathlib.Omega.{arith}
use Rattle.std.specs.Fork.{ChangesAt}
use Rattle.workers.proofs.Joined.{moved}
use Rattle.workers.proofs.change.for_each_mut.Goals as goal

-- the whole begins at the first place
pub returns-then-threads-eq1 : goal.returns-then-threads-eq1
returns-then-threads-eq1 g c i d l =
    (refl, moved (ChangesAt g.F.Fn c.args.f.now) {i = 0 + i} (omega arith) refl refl (c.in_turn.ensures.each i d l))

-- the whole begins at the first place
pub returns : goal.returns
returns g c i d l =
    (refl, moved (ChangesAt g.F.Fn c.args.f.now) {i = 0 + i} (omega arith) refl refl (c.in_parts.ensures.each i d l))
