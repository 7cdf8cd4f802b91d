-- Sizes of nodes by what is below them at least, in states that are as at first in what no effect names.
use Rattle.std.specs.Prelude.{◌≡◌, ℕ, true}
use Rattle.htn_model.specs.Grounding.{problem_of}
use Rattle.htn_model.specs.Problem.{Child, IsGrounded}
use Rattle.htn_model.specs.Task.{Task}
use Rattle.heuristics.specs.Measure.{IsLowerMeasure, is_as_at_first}
use Rattle.call_rules.specs.Bounds.{IsKept, IsStepSize}

-- the initial state is such a state, steps lead from such states to such, and from them they lower the sizes of a lower
-- measure by one at most
pub record AreMeasuredAtFirst (t : Task) : Type 0 where
  pub first : is_as_at_first (problem_of t) (problem_of t).initial_state ≡ true
  pub kept : IsKept t (is_as_at_first (problem_of t))
  pub lowers : (size : Child → ℕ) → IsLowerMeasure (problem_of t) size
      → IsStepSize t (is_as_at_first (problem_of t)) size

-- so it is where the task's problem is a ground one
abbrev pub MeasuresAreSizes : Task → Type 0
MeasuresAreSizes t = IsGrounded (problem_of t) → AreMeasuredAtFirst t
