use Rattle.call_table.specs.Views.{ArePlaces}
use Rattle.call_table.proofs.maps.places_of.Given as goal

abbrev pub invariant-loop-place : goal.invariant-loop-place
invariant-loop-place l = ArePlaces l.call l.found
