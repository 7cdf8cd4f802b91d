use Rattle.std.proofs.Common.{sym, arith}
use Rattle.plan_room.proofs.Suited.{is_no_action_line}
use Rattle.plan_room.proofs.below.is_action_line.Goals as goal

pub returns-else-line-actions : goal.returns-else-line-actions
returns-else-line-actions g c =
    let l = g.L.PlanLines.lines c.args.lines.now in
    sym (is_no_action_line l c.requires.lines c.args.line c.args.task.now (let e = c.actions.ensures in let f = c.if-line-actions.false in omega arith) c.requires.low)
