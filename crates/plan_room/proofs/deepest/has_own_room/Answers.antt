use Rattle.plan_room.proofs.Own.{own_decided}
use Rattle.plan_room.proofs.deepest.has_own_room.Goals as goal

pub returns-clause-room : goal.returns-clause-room
returns-clause-room g c = own_decided (g.L.PlanLines.lines c.args.lines.now) c.requires.lines c.args.line c.in_ok-end.end c.is_some.result c.in_ok-end.ensures.end c.is_some.ensures
