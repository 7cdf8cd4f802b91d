use Rattle.std.proofs.Common.{◌≡◌, drop}
use Rattle.std.specs.List.{list_all}
use Rattle.htn_model.specs.Instances.{value_of}
use Rattle.htn_model.specs.Task.{has_type}
use Rattle.htn_ground.specs.Places.{places_of}
use Rattle.htn_ground.proofs.instances.places_hold.Given as goal

abbrev pub invariant-loop-place : goal.invariant-loop-place
invariant-loop-place l =
    list_all (λ p. has_type l.task p.1 (value_of l.values p.0)) (places_of (drop l.place-index l.places)) ≡ list_all (λ p. has_type l.task p.1 (value_of l.values p.0)) (places_of l.places)
