use Rattle.std.proofs.Common.{◌≡◌, take}
use Rattle.htn_model.specs.Instances as model
use Rattle.htn_task.specs.Literals.{literals_of}
use Rattle.htn_task.specs.Formulas.{formulas_view}
use Rattle.htn_ground.proofs.literals.state_literals.Given as goal

abbrev pub invariant-loop-formula : goal.invariant-loop-formula
invariant-loop-formula l =
    literals_of l.found.items ≡ model.literals_of l.task l.values (model.state_formulas (formulas_view (take l.formula-index l.formula-items)))
