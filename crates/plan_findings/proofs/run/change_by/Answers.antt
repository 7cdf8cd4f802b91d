use Rattle.std.proofs.Common.{◌∙◌, sym}
use Rattle.plan_findings.proofs.Running.{change_of_action, no_change}
use Rattle.plan_findings.proofs.run.change_by.Goals as goal

pub returns-in_default : goal.returns-in_default
returns-in_default c = no_change c.args.task.now c.args.turns.now c.args.gap c.args.goal.now _ (sym c.in_ok-found.ensures ∙ c.in_default.is)

pub returns : goal.returns
returns c =
    change_of_action c.args.task.now c.args.turns.now c.args.gap c.args.goal.now c.in-Some.action _
    (sym c.in_ok-found.ensures ∙ c.in-Some.is) c.in_ok-change.ensures
