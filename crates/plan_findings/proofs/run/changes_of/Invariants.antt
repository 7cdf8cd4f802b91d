use Rattle.plan_findings.proofs.Running.{AreSoFar}
use Rattle.plan_findings.proofs.run.changes_of.Given as goal

abbrev pub invariant-loop-gap : goal.invariant-loop-gap
invariant-loop-gap l = AreSoFar l.task l.tasks l.gap l.changes.items
