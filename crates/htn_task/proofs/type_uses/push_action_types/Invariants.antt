use Rattle.std.proofs.Common.{◌≡◌, ◌++◌, take}
use Rattle.std.specs.List.{flat_map}
use Rattle.htn_model.specs.Task.{formula_types}
use Rattle.htn_task.proofs.type_uses.push_action_types.Given as goal

abbrev pub invariant-loop-action : goal.invariant-loop-action
invariant-loop-action l = l.found.items ≡ l.initial.found.items ++ flat_map (λ a. a.parameters ++ flat_map formula_types a.precondition) (take l.action-index l.actions)
