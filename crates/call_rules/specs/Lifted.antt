-- Calls of blocks in whole states by number, each lifted from a call in a part, and the estimate by them.
use Rattle.std.specs.Prelude.{◌≡◌, ℕ, ◌≤◌, List, map, Bool, cond, Some}
use Rattle.htn_model.specs.State.{State}
use Rattle.htn_model.specs.Problem.{Network}
use Rattle.htn_calls.specs.Calls.{Summary, Table, estimate}
use Rattle.htn_calls.specs.Numbered.{summary_of}
use Rattle.call_rules.specs.Frame.{Frame}
use Rattle.call_rules.specs.Framed.{IsPart, lifted_summary, IsFramed}

module _ (state : ℕ → State) (block : ℕ → Network) (frame : ℕ → Frame) (listing : Table ℕ ℕ) where
  -- a summary of a block in a state is that of the block in the part of the state in its frame, lifted
  pub record IsLiftedCall (i j : ℕ) (u : Summary ℕ) : Type 0 where
    pub part : ℕ
    pub summary : Summary ℕ
    pub is_part : IsPart (frame j) (state i) (state part)
    pub listed : listing part j ≡ Some summary
    pub lifted : summary_of state block u ≡ lifted_summary state block frame j (state i) summary

  -- so is each that is listed for whole states
  abbrev pub AreLifted : Table ℕ ℕ → Type 0
  AreLifted whole = (i j : ℕ) (u : Summary ℕ) → whole i j ≡ Some u → IsLiftedCall i j u

-- by such calls the estimate by number is no more than that by the lifted table
abbrev pub LiftedBelow : Type 0
LiftedBelow =
    (state : ℕ → State) (block : ℕ → Network) (frame : ℕ → Frame) (listing whole : Table ℕ ℕ)
    (table : Table State Network) (total : List ℕ → ℕ) (least : List Network → ℕ) (ends : ℕ → Bool)
    (goal : State → Bool) (cap : ℕ)
    → IsFramed state block frame listing table → ((blocks : List ℕ) → total blocks ≤ least (map block blocks))
    → AreLifted state block frame listing whole
    → ((i : ℕ) → cond (ends i) 0 cap ≤ cond (goal (state i)) 0 cap) → (blocks : List ℕ) (i : ℕ)
    → estimate whole (λ k. total) total ends cap blocks i
    ≤ estimate table (λ s. least) least goal cap (map block blocks) (state i)
