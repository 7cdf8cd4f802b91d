use Rattle.std.proofs.Common.{drop}
use Rattle.htn_model.specs.Grounding.{problem_of}
use Rattle.htn_ground.specs.Trees.{number_of}
use Rattle.htn_walk.specs.Places.{open_places, places_view}
use Rattle.htn_walk.specs.Told.{FinishesListed, told}
use Rattle.htn_walk.proofs.Way.{IsUnderWay}
use Rattle.htn_search.proofs.walk.walk_listed.Given as goal

-- the walk has come to the ranks that are left
abbrev pub invariant-loop-rank : goal.invariant-loop-rank
invariant-loop-rank l = record {
  way : IsUnderWay (number_of l.task) (problem_of l.task) (told l.task l.initial.walk.config l.ranks) l.initial.walk.config (open_places l.initial.walk.places.items) (told l.task l.walk.config (drop l.rank-index l.ranks))
      l.walk.config l.walk.trail.items (open_places l.walk.places.items) (places_view l.walk.visits.items);
  leads : FinishesListed l.task l.walk.config (drop l.rank-index l.ranks);
}
