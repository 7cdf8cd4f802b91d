use Rattle.std.proofs.Common.{◌≡◌, drop}
use Rattle.htn_model.specs.Grounding.{problem_of}
use Rattle.htn_ground.specs.Trees.{number_of}
use Rattle.htn_walk.specs.Places.{open_places, places_view}
use Rattle.htn_walk.proofs.Way.{IsUnderWay}
use Rattle.htn_net.proofs.rebuilding.walk_along.Given as goal

-- the walk has come to the numbers that are left, and so has the configuration
abbrev pub invariant-loop-number : goal.invariant-loop-number
invariant-loop-number l = record {
  way : IsUnderWay (number_of l.task) (problem_of l.task) l.numbers l.initial.walk.config (open_places l.initial.walk.places.items) (drop l.number-index l.numbers)
      l.walk.config l.walk.trail.items (open_places l.walk.places.items) (places_view l.walk.visits.items);
  same : l.config ≡ l.walk.config;
}
