use Rattle.std.proofs.Common.{◌≡◌, drop}
use Rattle.std.specs.List.{list_all}
use Rattle.htn_ground.specs.Places.{places_of}
use Rattle.htn_ground.specs.Search.{place_constant}
use Rattle.htn_ground.proofs.instances.place_constants_hold.Given as goal

abbrev pub invariant-loop-place : goal.invariant-loop-place
invariant-loop-place l = list_all (place_constant l.task) (places_of (drop l.place-index l.places)) ≡ list_all (place_constant l.task) (places_of l.places)
