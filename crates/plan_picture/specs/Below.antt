-- What is below a line of a forest, and the first action there.
use Rattle.std.specs.Prelude.{ℕ, ◌<◌, ◌≤◌, List, Option, Some, None}
use Rattle.htn_model.specs.PlanFile.{IsIn}

-- a line is another one, or below it
pub data IsBelow (children : ℕ → List ℕ) : (top line : ℕ) → Type 0 where
  itself : (line : ℕ) → IsBelow children line line
  further : (top child line : ℕ) → IsIn child (children top) → IsBelow children child line → IsBelow children top line

-- the least number of which something is so, if there is one
abbrev pub IsLeast : (ℕ → Type 0) → Option ℕ → Type 0
IsLeast P None = (n : ℕ) → P n → ⊥
IsLeast P (Some least) = P least × ((n : ℕ) → P n → least ≤ n)

-- the first action at a line or below it, if there is one, where the actions are the lines before a number
abbrev pub IsFirstAction : (actions : ℕ) → (ℕ → List ℕ) → (line : ℕ) → Option ℕ → Type 0
IsFirstAction actions children line first = IsLeast (λ action. (action < actions) × IsBelow children line action) first
