use Rattle.plan_room.proofs.Windowed.{hold_found}
use Rattle.plan_room.proofs.window.hold_within.Goals as goal

pub returns : goal.returns
returns g c =
    let l = g.L.PlanLines.lines c.args.lines.now in
    hold_found l.states c.args.window.first c.args.window.last c.args.literals.now c.next_gap.result c.is_some.result c.next_gap.ensures c.is_some.ensures
