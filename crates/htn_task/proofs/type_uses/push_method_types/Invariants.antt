use Rattle.std.proofs.Common.{◌≡◌, ◌++◌, take}
use Rattle.std.specs.List.{flat_map}
use Rattle.htn_model.specs.Task.{formula_types}
use Rattle.htn_task.proofs.type_uses.push_method_types.Given as goal

abbrev pub invariant-loop-method : goal.invariant-loop-method
invariant-loop-method l = l.found.items ≡ l.initial.found.items ++ flat_map (λ m. m.parameters ++ flat_map formula_types m.precondition) (take l.method-index l.methods)
