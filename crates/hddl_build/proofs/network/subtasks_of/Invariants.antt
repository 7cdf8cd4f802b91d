use Rattle.std.proofs.Common.{◌≡◌, map, take}
use Rattle.hddl_meaning.specs.Building.{subtask_of}
use Rattle.hddl_build.proofs.network.subtasks_of.Given as goal

abbrev pub invariant-loop-subtask : goal.invariant-loop-subtask
invariant-loop-subtask l = l.found.items ≡ map (λ s. subtask_of l.vocabulary l.scope s.task) (take l.subtask-index l.subtasks)
