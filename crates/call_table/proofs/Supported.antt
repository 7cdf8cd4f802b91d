-- Values that follow from those of shorter lists are estimates.
use Rattle.std.proofs.Common.{◌≡◌, ℕ, zero, suc, ◌+◌, ◌<◌, ◌≤◌, max, Bool, cond, List, [], ◌∷◌, length, All, Contains, map, IfSome, Option, Some, None, option_map, unwrap_or, inl, inr, refl, sym, ap, subst, arith}
use Rattle.std.proofs.lemmas.List.Elements.{All-contains}
use Rattle.std.proofs.lemmas.Map.Views.{Contains-from_lookup}
use Rattle.indexmap.specs.IndexMap.{IndexMap, get}
use Rattle.htn_calls.specs.Calls.{Exit, Summary, over_exits, by_summary}
use Rattle.call_table.specs.Lists.{Lists, list_at, nodes_of}
use Rattle.call_table.specs.Sites.{site_eq, site_eq-decides}
use Rattle.call_table.specs.Views.{exit_view, summary_view, call_at, listing}
use Rattle.call_table.specs.Estimates.{AreEstimates, IsSupported, ends_in, estimate_of, value_at}
use Rattle.call_table.specs.declared.call.Exit as own
use Rattle.call_table.specs.declared.call.Call.{Call}
use Rattle.call_table.specs.declared.call.CallTable.{CallTable}
use Rattle.call_table.specs.declared.site.Site.{Site}

-- ## The least over exits

-- it grows with what follows from each exit
over_exits_more : {S : Type 0} (f g : S → ℕ) → ((s : S) → f s ≤ g s) → (floor : ℕ) (exits : List (Exit S)) → over_exits f floor exits ≤ over_exits g floor exits
over_exits_more f g more floor [] = omega arith
over_exits_more f g more floor (e ∷ exits) =
    let l = over_exits_more f g more floor exits in
    let m = more e.state in
    omega arith

by_summary_more : {S : Type 0} (f g : S → ℕ) → ((s : S) → f s ≤ g s) → (others : ℕ) (o : Option (Summary S)) → by_summary o others f ≤ by_summary o others g
by_summary_more f g more others None = omega arith
by_summary_more f g more others (Some u) = over_exits_more f g more (u.floor + others) u.exits

-- what is no more than the floor, nor than what follows from any exit, is no more than it
pub within_exits : (f : ℕ → ℕ) (floor v : ℕ) (exits : List own.Exit) → v ≤ floor → All (λ (e : own.Exit). v ≤ e.cost + f e.state) exits → v ≤ over_exits f floor (map exit_view exits)
within_exits f floor v [] low each = low
within_exits f floor v (e ∷ exits) low each =
    let first : v ≤ e.cost + f e.state = each 0 e (omega arith) in
    let others = within_exits f floor v exits low (λ k d h. each (suc k) d (omega arith)) in
    omega arith

module _ {S : Type 0} (l : Lists) (t : CallTable) (ends : List Bool) (cap : ℕ) (m : IndexMap Site ℕ S) where
  -- ## Values of shorter lists

  -- an estimate is no less than the nodes
  nodes_below : (blocks : List ℕ) (s : ℕ) → nodes_of l.counts blocks ≤ estimate_of l t ends cap blocks s
  nodes_below [] s = omega arith
  nodes_below (b ∷ blocks) s = omega arith

  -- the values of all lists with fewer than n blocks are estimates
  abbrev AreShortEstimates : ℕ → Type 0
  AreShortEstimates n = (q : Site) → length (list_at l q.number) < n → IfSome (get site_eq m q) (λ v. v ≤ estimate_of l t ends cap (list_at l q.number) q.state)

  -- so is what is taken where there is none
  value_below : (n : ℕ) → AreShortEstimates n → (number s : ℕ) → length (list_at l number) < n → value_at l m number s ≤ estimate_of l t ends cap (list_at l number) s
  value_below n short number s low = by (get site_eq m (record { state = s; number = number })) (short (record { state = s; number = number }) low)
    where
      by : (o : Option ℕ) → IfSome o (λ v. v ≤ estimate_of l t ends cap (list_at l number) s) → unwrap_or o (nodes_of l.counts (list_at l number)) ≤ estimate_of l t ends cap (list_at l number) s
      by None h = nodes_below (list_at l number) s
      by (Some v) h = h

  -- a value that is supported by such values is an estimate
  supported_below : (n : ℕ) → AreShortEstimates n → (q : Site) (v : ℕ) → length (list_at l q.number) ≤ n → IsSupported l t ends cap m q v
      → v ≤ estimate_of l t ends cap (list_at l q.number) q.state
  supported_below n short q v low (inl h) = subst (λ bs. v ≤ estimate_of l t ends cap bs q.state) (sym h.0) h.1
  supported_below n short q v low (inr h) =
      let first = h.0 in
      let rest = h.1 in
      let is = h.2 in
      let size : length (list_at l q.number) ≡ suc (length (list_at l rest)) = ap length is in
      let more = by_summary_more (value_at l m rest) (estimate_of l t ends cap (list_at l rest)) (λ s. value_below n short rest s (omega arith))
      (nodes_of l.counts (list_at l rest)) (listing t q.state first) in
      let within : v ≤ max (nodes_of l.counts (first ∷ list_at l rest)) (by_summary (listing t q.state first) (nodes_of l.counts (list_at l rest)) (value_at l m rest)) =
      subst (λ bs. v ≤ max (nodes_of l.counts bs) (by_summary (listing t q.state first) (nodes_of l.counts (list_at l rest)) (value_at l m rest))) is h.3 in
      let goal : v ≤ estimate_of l t ends cap (first ∷ list_at l rest) q.state = omega arith in
      subst (λ bs. v ≤ estimate_of l t ends cap bs q.state) (sym is) goal

  -- where all values are supported, all are estimates
  module _ (all : All (λ (p : Site × ℕ). IsSupported l t ends cap m p.0 p.1) m.entries) where
    short_estimates : (n : ℕ) → AreShortEstimates n
    short_estimates zero q low = absurd (omega arith)
    short_estimates (suc n) q low = by (short_estimates n) (get site_eq m q) refl
      where
        by : AreShortEstimates n → (o : Option ℕ) → get site_eq m q ≡ o → IfSome o (λ v. v ≤ estimate_of l t ends cap (list_at l q.number) q.state)
        by short None e = tt
        by short (Some v) e =
            let stands : Contains m.entries (q, v) = Contains-from_lookup (λ x y. (site_eq-decides x y).0) q v m.entries e in
            let is : IsSupported l t ends cap m q v = All-contains (λ (p : Site × ℕ). IsSupported l t ends cap m p.0 p.1) m.entries (q, v) all stands in
            supported_below n short q v (omega arith) is

    pub are_estimates : AreEstimates l t ends cap m
    are_estimates q = short_estimates (suc (length (list_at l q.number))) q (omega arith)

  -- ## What is checked of a value

  -- of the empty list
  pub ended_supported : (q : Site) (v : ℕ) → list_at l q.number ≡ [] → v ≤ cond (ends_in ends q.state) 0 cap → IsSupported l t ends cap m q v
  ended_supported q v e low = inl (e, low)

  -- of one with no more than the nodes
  pub few_supported : (q : Site) (v nodes first rest : ℕ) → list_at l q.number ≡ first ∷ list_at l rest → nodes ≤ nodes_of l.counts (list_at l q.number) → v ≤ nodes
      → IsSupported l t ends cap m q v
  few_supported q v nodes first rest e few low = inr (first, rest, e, omega arith)

  -- of one that is within the floor and the exits of the call
  pub called_supported : (q : Site) (v nodes first rest : ℕ) (call : Call) → list_at l q.number ≡ first ∷ list_at l rest → Some call ≡ call_at t q.state first
      → nodes ≤ nodes_of l.counts (list_at l rest) → v ≤ call.floor + nodes → All (λ (e : own.Exit). v ≤ e.cost + value_at l m rest e.state) call.exits.items
      → IsSupported l t ends cap m q v
  called_supported q v nodes first rest call e is few low each =
      let summary : Some (summary_view call) ≡ listing t q.state first = ap (option_map summary_view) is in
      let within = within_exits (value_at l m rest) (call.floor + nodes_of l.counts (list_at l rest)) v call.exits.items (omega arith) each in
      let by_call : v ≤ by_summary (listing t q.state first) (nodes_of l.counts (list_at l rest)) (value_at l m rest) =
      subst (λ o. v ≤ by_summary o (nodes_of l.counts (list_at l rest)) (value_at l m rest)) summary within in
      inr (first, rest, e, omega arith)
