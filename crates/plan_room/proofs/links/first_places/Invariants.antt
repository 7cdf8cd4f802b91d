use Rattle.std.proofs.Common.{◌≡◌, map, take}
use Rattle.htn_ground.specs.Views.{child_view}
use Rattle.plan_room.specs.Links.{first_of, place_of}
use Rattle.plan_room.proofs.links.first_places.Given as goal

abbrev pub invariant-loop-child : goal.invariant-loop-child
invariant-loop-child l = l.first.items ≡ map (λ c. first_of (place_of l.places) l.count (child_view c)) (take l.child-index l.nodes)
