use Rattle.std.proofs.Common.{sym}
use Rattle.pair_messages.proofs.Bound.{group_in}
use Rattle.pair_messages.proofs.variables.push_bindings.Goals as goal

pub loop-group-preserved : goal.loop-group-preserved
loop-group-preserved c =
    λ names old among.
    let g = c.group-item.result in
    c.in_ok-looked_at.ensures names (c.loop-group.invariant names old among)
    (λ t at. among t (group_in c.args.groups.now g t (c.loop-group.group-index, c.loop-group-test.true, sym c.group-item.is) at))
