use Rattle.std.proofs.Common.{◌≡◌, drop}
use Rattle.std.specs.List.{list_any}
use Rattle.htn_model.specs.Instances.{state_formulas}
use Rattle.htn_task.specs.Formulas.{formulas_view}
use Rattle.htn_ground.specs.Shown.{stands_in}
use Rattle.htn_ground.proofs.shown.stands_in_step.Given as goal

abbrev pub invariant-loop-formula : goal.invariant-loop-formula
invariant-loop-formula l =
    list_any (stands_in l.place) (state_formulas (formulas_view (drop l.formula-index l.formula-items))) ≡ list_any (stands_in l.place) (state_formulas (formulas_view l.formula-items))
