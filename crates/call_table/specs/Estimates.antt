-- Values of lists of blocks in states: estimates by a table, which are found in any way and checked one by one.
use Rattle.std.specs.Prelude.{◌≡◌, ℕ, ◌≤◌, ◌⊎◌, List, [], ◌∷◌, Bool, true, cond, max, Option, IfSome, get_or, unwrap_or}
use Rattle.indexmap.specs.IndexMap.{IndexMap, get}
use Rattle.htn_calls.specs.Calls.{by_summary, estimate}
use Rattle.call_table.specs.Lists.{Lists, list_at, nodes_of}
use Rattle.call_table.specs.Sites.{site_eq}
use Rattle.call_table.specs.Views.{listing}
use Rattle.call_table.specs.declared.call.CallTable.{CallTable}
use Rattle.call_table.specs.declared.site.Site.{Site}

-- whether the goal holds in a state, by a list of all states; in those past its end it may
abbrev pub ends_in : List Bool → ℕ → Bool
ends_in ends state = get_or ends state true

module _ (l : Lists) (t : CallTable) (ends : List Bool) (cap : ℕ) where
  -- the estimate of blocks in a state by the table
  abbrev pub estimate_of : List ℕ → ℕ → ℕ
  estimate_of = estimate (listing t) (λ s blocks. nodes_of l.counts blocks) (nodes_of l.counts) (ends_in ends) cap

  -- no value is more than the estimate of its list in its state
  abbrev pub AreEstimates : {S : Type 0} → IndexMap Site ℕ S → Type 0
  AreEstimates m = (q : Site) → IfSome (get site_eq m q) (λ v. v ≤ estimate_of (list_at l q.number) q.state)

-- the value of a list in a state, if it has one
abbrev pub stored_at : {S : Type 0} → IndexMap Site ℕ S → ℕ → ℕ → Option ℕ
stored_at m number state = get site_eq m (record { state = state; number = number })

module _ {S : Type 0} (l : Lists) (m : IndexMap Site ℕ S) where
  -- the value of a list in a state; its nodes where it has none
  abbrev pub value_at : ℕ → ℕ → ℕ
  value_at number state = unwrap_or (stored_at m number state) (nodes_of l.counts (list_at l number))

module _ {S : Type 0} (l : Lists) (t : CallTable) (ends : List Bool) (cap : ℕ) (m : IndexMap Site ℕ S) where
  -- what is checked of the value of a list in a state: of the empty list, that it is nothing where the goal may hold, and
  -- no more than the cap elsewhere; of others, that it is no more than the nodes, or than what follows from the values of
  -- the list behind the first block, at the exits of that block's call and by its floor
  abbrev pub IsSupported : Site → ℕ → Type 0
  IsSupported q v =
      ((list_at l q.number ≡ []) × (v ≤ cond (ends_in ends q.state) 0 cap))
      ⊎ ((first : ℕ) × (rest : ℕ) × (list_at l q.number ≡ first ∷ list_at l rest)
      × (v ≤ max (nodes_of l.counts (list_at l q.number)) (by_summary (listing t q.state first) (nodes_of l.counts (list_at l rest)) (value_at l m rest))))
