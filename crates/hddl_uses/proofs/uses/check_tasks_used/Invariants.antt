use Rattle.std.proofs.Common.{take}
use Rattle.hddl_uses.specs.Contexts.{Fails, PassedOver}
use Rattle.hddl_scope.specs.Findings.{AddsAny}
use Rattle.hddl_uses.specs.Parts.{Subtask}
use Rattle.hddl_uses.proofs.uses.check_tasks_used.Given as goal

abbrev pub invariant-loop-subtask : goal.invariant-loop-subtask
invariant-loop-subtask l =
    AddsAny (λ x. PassedOver l.context (Subtask (record { variables = l.scope; atom = x.task }))) (λ x. Fails l.context (Subtask (record { variables = l.scope; atom = x.task }))) (take l.subtask-index l.subtasks) l.initial.found l.found
