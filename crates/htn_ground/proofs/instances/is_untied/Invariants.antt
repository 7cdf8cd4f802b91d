use Rattle.std.proofs.Common.{◌≡◌, take, true, ℕ}
use Rattle.htn_ground.specs.Search.{equality_singles}
use Rattle.htn_ground.proofs.instances.is_untied.Given as goal

-- the equalities so far allow all objects
abbrev pub invariant-loop-equality : goal.invariant-loop-equality
invariant-loop-equality l = (o : ℕ) → equality_singles (take l.equality-index l.equalities) l.at o ≡ true
