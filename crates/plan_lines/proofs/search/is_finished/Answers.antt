use Rattle.plan_lines.specs.Allowed.{IsInstanceWith}
use Rattle.plan_lines.proofs.Exchanged.{found_tells}
use Rattle.plan_lines.proofs.Searched.{finished, none_true, unfinished}
use Rattle.plan_lines.proofs.search.is_finished.Goals as goal

pub returns-then-not-is_used_up : goal.returns-then-not-is_used_up
returns-then-not-is_used_up c = none_true (unfinished c.args.task.now c.args.conditions.now c.args.children.now c.args.given.now c.args.left.now c.if-not-is_used_up.ensures)

pub returns : goal.returns
returns c =
    finished c.args.task.now c.args.conditions.now c.args.children.now c.args.given.now c.args.left.now c.is_some.result c.if-not-is_used_up.ensures
    (found_tells (IsInstanceWith c.args.task.now c.args.conditions.now c.args.given.now) c.in_ok-found.found c.is_some.result c.is_some.ensures c.in_ok-found.ensures)
