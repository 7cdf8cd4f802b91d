use Rattle.std.proofs.Common.{◌≡◌, ◌++◌, map, take}
use Rattle.hddl_warnings.proofs.tasks.push_subtasks.Given as goal

abbrev pub invariant-loop-subtask : goal.invariant-loop-subtask
invariant-loop-subtask l = map (λ x. x.now) l.names.items ≡ map (λ x. x.now) l.initial.names.items ++ map (λ s. s.task.name) (take l.subtask-index l.subtask-items)
