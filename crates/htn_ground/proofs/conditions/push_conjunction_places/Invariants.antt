use Rattle.std.proofs.Common.{◌≡◌, ◌++◌, take}
use Rattle.std.specs.List.{flat_map}
use Rattle.htn_model.specs.Instances.{formula_places}
use Rattle.htn_task.specs.Formulas.{formulas_view}
use Rattle.htn_ground.specs.Places.{among, places_of}
use Rattle.htn_ground.proofs.conditions.push_conjunction_places.Given as goal

abbrev pub invariant-loop-formula : goal.invariant-loop-formula
invariant-loop-formula l =
    places_of l.places.items ≡ places_of l.initial.places.items ++ among l.count (flat_map (formula_places l.task) (formulas_view (take l.formula-index l.formula-items)))
