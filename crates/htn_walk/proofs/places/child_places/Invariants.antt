use Rattle.std.proofs.Common.{◌≡◌}
use Rattle.htn_walk.specs.Places.{child_places, places_view}
use Rattle.htn_walk.proofs.places.child_places.Given as goal

abbrev pub invariant-loop-position : goal.invariant-loop-position
invariant-loop-position l = places_view l.places.items ≡ child_places l.place.items 0 l.position
