use Rattle.std.proofs.Common.{◌≡◌, ◌++◌, take}
use Rattle.std.specs.List.{flat_map}
use Rattle.htn_model.specs.Task.{formula_types}
use Rattle.htn_task.specs.Formulas.{formulas_view}
use Rattle.htn_task.proofs.type_uses.push_conjunction_types.Given as goal

abbrev pub invariant-loop-formula : goal.invariant-loop-formula
invariant-loop-formula l = l.found.items ≡ l.initial.found.items ++ flat_map formula_types (formulas_view (take l.formula-index l.formula-items))
