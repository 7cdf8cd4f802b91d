use Rattle.std.proofs.Common.{◌≡◌, ◌++◌, map, take}
use Rattle.hddl_warnings.proofs.parameters.push_subtasks.Given as goal

abbrev pub invariant-loop-subtask : goal.invariant-loop-subtask
invariant-loop-subtask l = map (λ x. x.now) l.atoms.items ≡ map (λ x. x.now) l.initial.atoms.items ++ map (λ s. s.task) (take l.subtask-index l.subtasks)
