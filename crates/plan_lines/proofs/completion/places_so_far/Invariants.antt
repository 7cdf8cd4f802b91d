use Rattle.std.proofs.Common.{◌≡◌, drop}
use Rattle.std.specs.List.{list_all}
use Rattle.htn_ground.specs.Places.{places_of}
use Rattle.plan_lines.specs.Allowed.{place_so_far}
use Rattle.plan_lines.proofs.completion.places_so_far.Given as goal

abbrev pub invariant-loop-place : goal.invariant-loop-place
invariant-loop-place l =
    list_all (place_so_far l.task l.given) (places_of (drop l.place-index l.places)) ≡ list_all (place_so_far l.task l.given) (places_of l.places)
