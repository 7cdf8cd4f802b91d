-- When a node of a network is a step that has room.
use Rattle.std.specs.Prelude.{◌≡◌, ℕ, ◌≤◌, List}
use Rattle.htn_model.specs.State.{State}
use Rattle.htn_model.specs.Literal.{Literal}
use Rattle.htn_model.specs.Problem.{Child, precondition}
use Rattle.htn_model.specs.Fits.{StepFits}

-- the step has room between two gaps: its literals hold somewhere there
abbrev pub IsStepRoom : (ℕ → State) → Child → ℕ → ℕ → Type 0
IsStepRoom states child x y = (x ≤ y) × ((literals : List Literal) × (child ≡ precondition literals) × StepFits states literals x y)
