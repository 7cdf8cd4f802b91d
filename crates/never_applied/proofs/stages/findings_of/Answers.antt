use Rattle.never_applied.proofs.Sound.{findings_right}
use Rattle.never_applied.proofs.stages.findings_of.Goals as goal

pub returns : goal.returns
returns c =
    findings_right c.args.task.now c.args.last.fine _ c.requires.fine c.requires.usable (rw c.in-Some.is at c.in_ok-found.ensures) c.in_ok-no_plan.ensures
