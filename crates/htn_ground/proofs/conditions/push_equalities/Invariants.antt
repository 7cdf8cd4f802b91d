use Rattle.std.proofs.Common.{◌≡◌, ◌++◌, take}
use Rattle.htn_model.specs.Instances.{equalities_of}
use Rattle.htn_task.specs.Formulas.{formulas_view}
use Rattle.htn_ground.proofs.conditions.push_equalities.Given as goal

abbrev pub invariant-loop-formula : goal.invariant-loop-formula
invariant-loop-formula l = l.equalities.items ≡ l.initial.equalities.items ++ equalities_of (formulas_view (take l.formula-index l.formula-items))
