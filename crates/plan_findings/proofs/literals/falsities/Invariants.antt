use Rattle.std.proofs.Common.{take}
use Rattle.std.specs.List.{AllZip, zip}
use Rattle.htn_task.specs.Literals.{literals_of}
use Rattle.plan_findings.specs.Falsities.{IsFalsityIf}
use Rattle.plan_findings.proofs.literals.falsities.Given as goal

abbrev pub invariant-loop-number : goal.invariant-loop-number
invariant-loop-number l = AllZip (IsFalsityIf l.task) (zip (take l.number (literals_of l.literals)) l.standings) l.each.items
