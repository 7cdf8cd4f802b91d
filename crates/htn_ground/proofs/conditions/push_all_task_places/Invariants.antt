use Rattle.std.proofs.Common.{◌≡◌, ◌++◌, take}
use Rattle.std.specs.List.{flat_map}
use Rattle.htn_model.specs.Instances.{task_places}
use Rattle.htn_ground.specs.Places.{among, places_of}
use Rattle.htn_ground.proofs.conditions.push_all_task_places.Given as goal

abbrev pub invariant-loop-schema : goal.invariant-loop-schema
invariant-loop-schema l = places_of l.places.items ≡ places_of l.initial.places.items ++ among l.count (flat_map (task_places l.task) (take l.schema-index l.schemas))
