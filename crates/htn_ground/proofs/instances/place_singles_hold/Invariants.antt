use Rattle.std.proofs.Common.{◌≡◌, drop}
use Rattle.htn_ground.specs.Places.{places_of}
use Rattle.htn_ground.specs.Search.{place_singles}
use Rattle.htn_ground.proofs.instances.place_singles_hold.Given as goal

abbrev pub invariant-loop-place : goal.invariant-loop-place
invariant-loop-place l = place_singles l.task (places_of (drop l.place-index l.places)) l.at l.object ≡ place_singles l.task (places_of l.places) l.at l.object
