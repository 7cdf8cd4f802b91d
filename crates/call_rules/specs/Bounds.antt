-- Tables over the rules of lone nodes: what they claim of the listing machine, and the bound by them.
use Rattle.std.specs.Prelude.{◌≡◌, ℕ, ◌+◌, ◌≤◌, List, map, Bool, true, cond, None}
use Rattle.std.specs.List.{sum_by}
use Rattle.htn_model.specs.Grounding.{problem_of}
use Rattle.htn_model.specs.Levels.{Stepping}
use Rattle.htn_model.specs.Machine.{Config}
use Rattle.htn_model.specs.Problem.{Child, Network}
use Rattle.htn_model.specs.State.{State}
use Rattle.htn_model.specs.Task.{Task}
use Rattle.word_machine.specs.Machine.{IsStep}
use Rattle.word_machine.specs.Certificate.{IsBelow}
use Rattle.htn_calls.specs.Calls.{Table, Claims, AreBounds, AreChecked, estimate}
use Rattle.htn_calls.specs.Closed.{AreClosed}
use Rattle.htn_calls.specs.Cuts.{split}
use Rattle.htn_calls.specs.Series.{series_of, opened, opened_series}
use Rattle.htn_calls.specs.Split.{network_of}
use Rattle.htn_calls.specs.Bounds.{is_goal}
use Rattle.htn_calls.specs.Ordered.{ordered, lone}
use Rattle.htn_walk.specs.Listed.{listing_machine}
use Rattle.call_rules.specs.Listing.{listed_step}
use Rattle.call_rules.specs.Lone.{lone_rules}

-- bounds from below by a state and blocks, and by blocks alone
abbrev pub ByState : Type 0
ByState = State → List Network → ℕ

abbrev pub ByBlocks : Type 0
ByBlocks = List Network → ℕ

-- ## States that pass a test

module _ (t : Task) (passes : State → Bool) where
  -- the listing machine's steps from states that pass
  abbrev pub step_within : Stepping
  step_within c rank = cond (passes c.state) (listed_step t c rank) None

  -- they lead to states that pass
  abbrev pub IsKept : Type 0
  IsKept =
      (c d : Config) (rank : ℕ) → passes c.state ≡ true → IsStep (listing_machine t) c rank d → passes d.state ≡ true

  -- they lower the sizes of the open nodes together by one at most
  abbrev pub IsStepSize : (Child → ℕ) → Type 0
  IsStepSize size =
      (c d : Config) (rank : ℕ) → passes c.state ≡ true → IsStep (listing_machine t) c rank d
      → sum_by size c.open_nodes ≤ sum_by size d.open_nodes + 1

-- the sizes of the nodes of blocks together
abbrev pub size_sum : (Child → ℕ) → ByBlocks
size_sum size blocks = sum_by size (series_of blocks).children

module _ (t : Task) (passes : State → Bool) (table : Table State Network) (low : ByState) (least : ByBlocks) where
  -- the base bounds are bounds of words from states that pass, and the calls are checked over the rules of lone nodes
  pub record IsSound : Type 0 where
    pub bounds : AreBounds (step_within t passes) opened_series (λ s. true) low least
    pub checked : AreChecked (lone_rules t) table low least

  -- the estimate of blocks in a state
  abbrev pub estimate_by : ℕ → List Network → State → ℕ
  estimate_by cap = estimate table low least (is_goal (problem_of t)) cap

  -- the estimate of a configuration by the blocks of what is open; nothing in states that don't pass
  abbrev pub bound_by : ℕ → Config → ℕ
  bound_by cap c = cond (passes c.state) (estimate_by cap (split (network_of c)) c.state) 0

-- ## Laws

-- a step closes one node at most, in any state
abbrev pub NodesAreSizes : Task → Type 0
NodesAreSizes t = IsStepSize t (λ s. true) (λ x. 1)

-- sizes that a step lowers by one at most are base bounds
abbrev pub SizesAreBounds : Task → Type 0
SizesAreBounds t =
    (passes : State → Bool) (size : Child → ℕ) → IsStepSize t passes size
    → AreBounds (step_within t passes) opened_series (λ s. true) (λ s. size_sum size) (size_sum size)

-- a closed table is checked
abbrev pub ClosedAreChecked : Task → Type 0
ClosedAreChecked t =
    (table : Table State Network) (low : ByState) (least : ByBlocks)
    → AreClosed (lone_rules t) table low least → AreChecked (lone_rules t) table low least

-- the claims of a table hold of words from states that pass
abbrev pub TablesClaim : Task → Type 0
TablesClaim t =
    (passes : State → Bool) (table : Table State Network) (low : ByState) (least : ByBlocks)
    → IsSound t passes table low least → Claims (step_within t passes) opened_series table

-- and the bound by it is admissible, if steps lead from states that pass to such
abbrev pub BoundsAreBelow : Task → Type 0
BoundsAreBelow t =
    (passes : State → Bool) (table : Table State Network) (low : ByState) (least : ByBlocks) (cap : ℕ)
    → IsKept t passes → IsSound t passes table low least
    → IsBelow (listing_machine t) (bound_by t passes table low least cap)

-- where a totally ordered network is open, the bound is the estimate by its nodes, each alone, and their sizes add up
pub record BoundsOfOrdered (t : Task) : Type 0 where
  pub bound : (passes : State → Bool) (table : Table State Network) (low : ByState) (least : ByBlocks) (cap : ℕ)
      (s : State) (nodes : List Child) → passes s ≡ true
      → bound_by t passes table low least cap (opened s (ordered nodes))
      ≡ estimate_by t passes table low least cap (map lone nodes) s
  pub size : (size : Child → ℕ) (nodes : List Child) → size_sum size (map lone nodes) ≡ sum_by size nodes
