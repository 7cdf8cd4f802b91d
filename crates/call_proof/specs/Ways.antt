-- The way of a word by a table of calls, and why no word before it finishes.
use Rattle.std.specs.Prelude.{◌≡◌, ℕ, ◌+◌, ◌≤◌, List, [], ◌∷◌, ◌++◌, length, take, Bool, true, Some, slice_get}
use Rattle.std.specs.List.{All}
use Rattle.indexmap.specs.IndexMap.{IndexMap}
use Rattle.call_table.specs.Estimates.{AreEstimates, estimate_of}
use Rattle.call_table.specs.Lists.{Lists, list_at}
use Rattle.call_table.specs.Views.{call_at}
use Rattle.call_table.specs.declared.call.Call.{Call}
use Rattle.call_table.specs.declared.call.CallTable.{CallTable}
use Rattle.call_table.specs.declared.call.Rule.{Rule}
use Rattle.call_table.specs.declared.site.Site.{Site}

module _ {S : Type 0} (l : Lists) (table : CallTable) (values : IndexMap Site ℕ S) where
  -- at least these steps are left of nodes in a state, by each estimate that the values are no more than
  abbrev pub AreLeft : ℕ → ℕ → List ℕ → Type 0
  AreLeft steps state nodes =
      (ends : List Bool) (cap : ℕ) → AreEstimates l table ends cap values
      → steps ≤ estimate_of l table ends cap nodes state

  -- each of some rules leads, with the nodes of a list behind, to where more steps than these are left
  abbrev pub AreLonger : List Rule → ℕ → ℕ → Type 0
  AreLonger rules rest left = All (λ r. AreLeft (left + 1) r.state (list_at l r.blocks ++ list_at l rest)) rules

  -- the rule of a rank, with the nodes of a list behind, where each lesser rank takes more steps than these
  pub record IsRankedRule (rules : List Rule) (rest rank left : ℕ) (Onward : ℕ → List ℕ → Type 0) : Type 0 where
    pub lesser : AreLonger (take rank rules) rest left
    pub rule : Rule
    pub ranked : slice_get rules rank ≡ Some rule
    pub onward : Onward rule.state (list_at l rule.blocks ++ list_at l rest)

  -- a step by such a rule of the first node's call
  pub record IsRankedStep (state : ℕ) (nodes : List ℕ) (rank left : ℕ) (Onward : ℕ → List ℕ → Type 0) : Type 0 where
    pub first : ℕ
    pub rest : ℕ
    pub open_nodes : nodes ≡ first ∷ list_at l rest
    pub call : Call
    pub known : call_at table state first ≡ Some call
    pub step : IsRankedRule call.rules.items rest rank left Onward

  -- each of some lists takes these steps at least from the state 0
  abbrev pub AreListsLeft : ℕ → List ℕ → Type 0
  AreListsLeft steps lists = All (λ k. AreLeft steps 0 (list_at l k)) lists

  module _ (ends : List Bool) where
    -- ranks lead from nodes in a state to none where the goal holds, and all along each lesser rank takes more steps
    abbrev pub IsBoundedWay : ℕ → List ℕ → List ℕ → Type 0
    IsBoundedWay state nodes [] = (nodes ≡ []) × (slice_get ends state ≡ Some true)
    IsBoundedWay state nodes (rank ∷ ranks) =
        IsRankedStep state nodes rank (length ranks) (λ s ns. IsBoundedWay s ns ranks)

    -- ranks go such a way from one of some lists in the state 0; no list takes fewer steps, and those before it more
    pub record IsBoundedWordFrom (starts : List ℕ) (initial : ℕ) (ranks : List ℕ) : Type 0 where
      pub from : ℕ
      pub at : slice_get starts initial ≡ Some from
      pub none_fewer : AreListsLeft (length ranks) starts
      pub before : AreListsLeft (length ranks + 1) (take initial starts)
      pub way : IsBoundedWay 0 (list_at l from) ranks

    -- a word names the place of one of some lists, and ranks that go such a way from there
    abbrev pub IsBoundedWord : List ℕ → List ℕ → Type 0
    IsBoundedWord starts [] = ⊥
    IsBoundedWord starts (initial ∷ ranks) = IsBoundedWordFrom starts initial ranks
