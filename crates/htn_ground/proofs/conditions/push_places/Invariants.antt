use Rattle.std.proofs.Common.{◌≡◌, ◌++◌, take}
use Rattle.std.specs.List.{zip}
use Rattle.htn_task.specs.Views.{terms_of}
use Rattle.htn_ground.specs.Places.{among, places_of}
use Rattle.htn_ground.proofs.conditions.push_places.Given as goal

abbrev pub invariant-loop-place : goal.invariant-loop-place
invariant-loop-place l = places_of l.places.items ≡ places_of l.initial.places.items ++ among l.count (zip (terms_of (take l.place l.terms)) l.types)
