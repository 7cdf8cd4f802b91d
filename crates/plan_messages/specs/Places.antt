-- What an error of a plan is about.
use Rattle.std.specs.Prelude.{◌≡◌, ℕ, List, Option, Some, None}
use Rattle.htn_model.specs.PlanFile.{IsIn}
use Rattle.diagnostics.specs.declared.diagnostic.Where.{Where}
use Rattle.diagnostics.specs.declared.diagnostic.Where.TheVariants.{Text, Place}
use Rattle.plan_messages.specs.Spots.{IsOnLine, IsSpotOn}
use Rattle.plan_messages.specs.declared.placed_plan.PlacedPlan.{PlacedPlan}

-- a word on the line of a place, or the plan as a whole where there is no place
abbrev pub IsOnLineOf : PlacedPlan → Option ℕ → Where → Type 0
IsOnLineOf p None (Text source) = source.now ≡ p.text.now
IsOnLineOf p None (Place spot) = ⊥
IsOnLineOf p (Some line) (Text source) = ⊥
IsOnLineOf p (Some line) (Place spot) = IsSpotOn p.text.now line spot

-- Of numbers with their lines: a word on one of the lines of a number, or the plan as a whole where it has no line.
abbrev pub IsOnLineWith : PlacedPlan → List (ℕ × ℕ) → ℕ → Where → Type 0
IsOnLineWith p lines id (Text source) = (source.now ≡ p.text.now) × ((line : ℕ) → IsIn (id, line) lines → ⊥)
IsOnLineWith p lines id (Place spot) = (line : ℕ) × IsIn (id, line) lines × IsSpotOn p.text.now line spot

-- ---- what the code computes

-- a place on one of the lines of a number, or none where it has no line
abbrev pub IsPlaceOf : PlacedPlan → List (ℕ × ℕ) → ℕ → Option ℕ → Type 0
IsPlaceOf p lines id None = (line : ℕ) → IsIn (id, line) lines → ⊥
IsPlaceOf p lines id (Some place) = (line : ℕ) × IsIn (id, line) lines × IsOnLine p.text.now.lines line place
