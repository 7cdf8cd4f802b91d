use Rattle.std.proofs.Common.{◌≡◌, take, true, ℕ}
use Rattle.htn_model.specs.Task.{Task, has_type}
use Rattle.htn_ground.specs.Places.{places_of}
use Rattle.htn_ground.specs.Search.{place_singles}
use Rattle.htn_ground.proofs.instances.are_of_type.Given as goal

-- the places so far allow all objects of the type
abbrev pub invariant-loop-place : goal.invariant-loop-place
invariant-loop-place l = (t : Task) (o : ℕ) → has_type t l.type_number o ≡ true → place_singles t (places_of (take l.place-index l.places)) l.at o ≡ true
