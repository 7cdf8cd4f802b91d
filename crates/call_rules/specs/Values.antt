-- Values by the numbers of states and blocks, which are no more than the estimate of what the numbers stand for.
use Rattle.std.specs.Prelude.{ℕ, ◌≤◌, List, [], ◌∷◌, map, Bool, cond, max}
use Rattle.htn_model.specs.Problem.{Network}
use Rattle.htn_model.specs.State.{State}
use Rattle.htn_calls.specs.Calls.{Rules, Table, by_summary, estimate}
use Rattle.htn_calls.specs.Numbered.{IsNumbering}
use Rattle.call_rules.specs.Bounds.{ByState, ByBlocks}

module _ (table : Table ℕ ℕ) (low : ℕ → List ℕ → ℕ) (least : List ℕ → ℕ) (goal : ℕ → Bool) (cap : ℕ)
    (value : List ℕ → ℕ → ℕ) where
  -- where no block is left, a value is nothing in a state of the goal, and else no more than the cap; of other blocks it
  -- is no more than the base bound, or than what follows from the call of the first one and the values of the others
  pub record AreValues : Type 0 where
    pub ended : (s : ℕ) → value [] s ≤ cond (goal s) 0 cap
    pub called : (s block : ℕ) (rest : List ℕ)
        → value (block ∷ rest) s ≤ max (low s (block ∷ rest)) (by_summary (table s block) (least rest) (value rest))

-- such values are no more than the estimate by numbers
abbrev pub ValuesAreBelow : Type 0
ValuesAreBelow =
    (table : Table ℕ ℕ) (low : ℕ → List ℕ → ℕ) (least : List ℕ → ℕ) (goal : ℕ → Bool) (cap : ℕ)
    (value : List ℕ → ℕ → ℕ) → AreValues table low least goal cap value
    → (blocks : List ℕ) (s : ℕ) → value blocks s ≤ estimate table low least goal cap blocks s

-- and that is no more than the estimate of what the numbers stand for
abbrev pub NumbersAreBelow : Type 0
NumbersAreBelow =
    (state : ℕ → State) (block : ℕ → Network) (numbers : Rules ℕ ℕ) (rules : Rules State Network)
    (listing : Table ℕ ℕ) (table : Table State Network) (low_of : ℕ → List ℕ → ℕ) (low : ByState)
    (least_of : List ℕ → ℕ) (least : ByBlocks) (goal : State → Bool) (cap : ℕ)
    → IsNumbering state block numbers rules listing table low_of low least_of least → (blocks : List ℕ) (s : ℕ)
    → estimate listing low_of least_of (λ i. goal (state i)) cap blocks s
    ≤ estimate table low least goal cap (map block blocks) (state s)
