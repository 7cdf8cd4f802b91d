use mathlib.Core.Path.{sym, ap}
use Prim.Native.Nat.{◌+◌}
use Rattle.std.specs.Fork.{AcceptsAt, ChangesAt}
use Rattle.workers.proofs.Joined.{ready_back, changed_both}
use Rattle.workers.proofs.change.+parts.Goals as goal

-- what is ready has ready parts
pub in_parts-part_and_rest-requires-clause-rest : goal.in_parts-part_and_rest-requires-clause-rest
in_parts-part_and_rest-requires-clause-rest g t c κs within =
    let cut = c.split_at_mut-part in
    ready_back (AcceptsAt g.F.Fn c.args.f.now) c.args.first _ c.args.s.now cut.result.0.now cut.result.1.now
    cut.ensures.value (ap (λ n. c.args.first + n) (sym cut.ensures.front_len)) c.requires.ready

-- both parts are changed, and so the whole is
pub in_parts-returns : goal.in_parts-returns
in_parts-returns g t c =
    let cut = c.split_at_mut-part in
    changed_both (ChangesAt g.F.Fn c.args.f.now) c.args.first _ c.args.s.now cut.result.0.now cut.result.1.now _ _
    cut.ensures.value (ap (λ n. c.args.first + n) (sym cut.ensures.front_len))
    c.part_and_rest.ensures.part c.part_and_rest.ensures.rest
