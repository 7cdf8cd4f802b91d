-- Values of lists of blocks in the part of a state that they and the goal look at.
use Rattle.std.specs.Prelude.{◌≡◌, ℕ, ◌+◌, ◌≤◌, ◌⊎◌, ◌||◌, List, [], ◌∷◌, map, Bool, cond, Some, Contains}
use Rattle.htn_model.specs.State.{State}
use Rattle.htn_model.specs.Problem.{Network}
use Rattle.htn_calls.specs.Calls.{Exit, Summary, Table, estimate}
use Rattle.call_rules.specs.Frame.{Frame, within, lift}
use Rattle.call_rules.specs.Framed.{IsPart, IsFramed}

-- the frame of a list: that of the goal, and those of its blocks
abbrev pub list_frame : (frame : ℕ → Frame) (goal_frame : Frame) → List ℕ → Frame
list_frame frame goal_frame [] = goal_frame
list_frame frame goal_frame (j ∷ rest) = λ a. frame j a || list_frame frame goal_frame rest a

module _ (state : ℕ → State) (frame : ℕ → Frame) (goal_frame : Frame) (listing : Table ℕ ℕ) (total : List ℕ → ℕ)
    (goal : State → Bool) (cap : ℕ) (value : List ℕ → ℕ → ℕ) where
  -- a value follows from the call of the first block, in the part of the state in its frame: it is no more than the
  -- floor and what ends the others, nor than what any exit costs and the value of the others in their part of what it
  -- leads to
  pub record IsFromCall (i j : ℕ) (rest : List ℕ) (least : ℕ) : Type 0 where
    pub part : ℕ
    pub summary : Summary ℕ
    pub is_part : IsPart (frame j) (state i) (state part)
    pub listed : listing part j ≡ Some summary
    pub floor : least ≤ summary.floor + total rest
    pub exits : (e : Exit ℕ) → Contains summary.exits e
        → (next : ℕ) × IsPart (list_frame frame goal_frame rest) (lift (frame j) (state i) (state e.state)) (state next)
        × (least ≤ e.cost + value rest next)

  -- where no block is left, a value is nothing in a state of the goal, and else no more than the cap; of other blocks
  -- it is no more than their sizes, or follows from the call of the first one
  pub record AreValuesIn : Type 0 where
    pub ended : (i : ℕ) → value [] i ≤ cond (goal (state i)) 0 cap
    pub called : (i j : ℕ) (rest : List ℕ)
        → (value (j ∷ rest) i ≤ total (j ∷ rest)) ⊎ IsFromCall i j rest (value (j ∷ rest) i)

-- whether the goal holds in a state is so by its part in the frame
abbrev pub IsGoalIn : Frame → (State → Bool) → Type 0
IsGoalIn frame goal = (s : State) → goal s ≡ goal (within frame s)

-- such values in parts of states are no more than the estimate in the whole ones
abbrev pub FramedValuesBelow : Type 0
FramedValuesBelow =
    (state : ℕ → State) (block : ℕ → Network) (frame : ℕ → Frame) (goal_frame : Frame) (listing : Table ℕ ℕ)
    (table : Table State Network) (total : List ℕ → ℕ) (least : List Network → ℕ) (goal : State → Bool) (cap : ℕ)
    (value : List ℕ → ℕ → ℕ)
    → IsFramed state block frame listing table → ((blocks : List ℕ) → total blocks ≤ least (map block blocks))
    → IsGoalIn goal_frame goal → AreValuesIn state frame goal_frame listing total goal cap value
    → (blocks : List ℕ) (i : ℕ) (s : State) → IsPart (list_frame frame goal_frame blocks) s (state i)
    → value blocks i ≤ estimate table (λ x. least) least goal cap (map block blocks) s
