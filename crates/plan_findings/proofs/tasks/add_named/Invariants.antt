use Rattle.std.proofs.Common.{◌≡◌, ◌++◌, map, take}
use Rattle.htn_ground.specs.Naming.{naming_of}
use Rattle.plan_findings.specs.Causes.{action_task}
use Rattle.plan_findings.proofs.tasks.add_named.Given as goal

abbrev pub invariant-loop-line : goal.invariant-loop-line
invariant-loop-line l = l.named.items ≡ l.fn.named.items ++ map (action_task (naming_of l.names)) (take l.line-index l.lines)
