use Rattle.std.proofs.Common.{sym, ap, ◌∙◌, arith}
use Rattle.htn_model.specs.Problem.{ground_task_eq}
use Rattle.plan_room.proofs.Suited.{is_task_line, is_no_task_line}
use Rattle.plan_room.proofs.below.is_task_line.Goals as goal

pub returns-then-line-actions : goal.returns-then-line-actions
returns-then-line-actions g c =
    let l = g.L.PlanLines.lines c.args.lines.now in
    sym (is_no_task_line l c.requires.lines c.args.line c.args.task.now (let e = c.actions.ensures in let f = c.if-line-actions.true in omega arith))

pub returns-else-line-actions : goal.returns-else-line-actions
returns-else-line-actions g c =
    let l = g.L.PlanLines.lines c.args.lines.now in
    c.eq.ensures ∙ ap (ground_task_eq c.args.task.now) c.task.ensures
    ∙ sym (is_task_line l c.requires.lines c.args.line c.args.task.now (let e = c.actions.ensures in let f = c.if-line-actions.false in omega arith) c.requires.low)
