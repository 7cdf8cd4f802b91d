use Rattle.std.proofs.Common.{◌≡◌, ◌++◌, map, take}
use Rattle.htn_model.specs.Instances as model
use Rattle.htn_ground.proofs.network.children_for.Given as goal

abbrev pub invariant-loop-subtask : goal.invariant-loop-subtask
invariant-loop-subtask l =
    l.children
    ≡ model.steps_of l.task l.values l.precondition
    ++ map (λ s. model.child_of l.task (model.ground_task l.values s)) (take l.subtask-index l.subtask-items)
