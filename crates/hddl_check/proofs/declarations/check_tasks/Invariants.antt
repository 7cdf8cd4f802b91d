use Rattle.std.proofs.Common.{take}
use Rattle.std.specs.List.{flat_map}
use Rattle.hddl_uses.specs.Contexts.{Fails, PassedOver}
use Rattle.hddl_scope.specs.Findings.{AddsAny}
use Rattle.hddl_check.specs.TextParts.{task_parts}
use Rattle.hddl_check.proofs.declarations.check_tasks.Given as goal

abbrev pub invariant-loop-task : goal.invariant-loop-task
invariant-loop-task l = AddsAny (PassedOver l.context) (Fails l.context) (flat_map task_parts (take l.task-index l.tasks)) l.initial.found l.found
