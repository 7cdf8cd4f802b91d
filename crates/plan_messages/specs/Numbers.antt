-- The places of numbers of lines.
use Rattle.std.specs.Prelude.{◌≡◌, ℕ, List, Option, Some, None}
use Rattle.std.specs.List.{AllZip}
use Rattle.plan_messages.specs.Places.{IsPlaceOf}
use Rattle.plan_messages.specs.declared.placed_plan.PlacedPlan.{PlacedPlan}
use Rattle.plan_messages.specs.declared.sighting.Sighting.{Sighting}

-- the places are on lines of the number, and there is none only where it has no line
abbrev pub IsSightingOf : PlacedPlan → List (ℕ × ℕ) → ℕ → Option Sighting → Type 0
IsSightingOf p lines id None = IsPlaceOf p lines id None
IsSightingOf p lines id (Some s) = IsPlaceOf p lines id (Some s.first) × ((place : ℕ) → s.second ≡ Some place → IsPlaceOf p lines id (Some place))

-- the sightings are those of these ids, in order
abbrev pub HasSightings : PlacedPlan → List (ℕ × ℕ) → List ℕ → List (Option Sighting) → Type 0
HasSightings p lines ids seen = AllZip (IsSightingOf p lines) ids seen
