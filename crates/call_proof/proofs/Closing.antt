-- What is checked of calls in frames.
use Rattle.std.proofs.Common.{◌≡◌, ◌∙◌, ℕ, ◌+◌, ◌≤◌, List, [], ◌∷◌, map, Contains, All, Option, Some, None, option_map, inl, inr, refl, sym, ap, subst, arith}
use Rattle.std.proofs.lemmas.List.Elements.{All-contains}
use Rattle.std.proofs.lemmas.Map.Views.{Contains-from_lookup}
use Rattle.htn_model.specs.State.{State}
use Rattle.htn_calls.specs.Calls as model
use Rattle.htn_calls.specs.Calls.{Covers}
use Rattle.htn_calls.specs.Numbered.{exit_of}
use Rattle.htn_calls.proofs.Numbered.{mapped_in, in_mapped}
use Rattle.call_rules.specs.Frame.{IsInside, lift}
use Rattle.call_rules.specs.Framed.{lifted_exit}
use Rattle.call_rules.specs.Closed.{IsClosedIn, IsMetIn}
use Rattle.call_table.specs.Lists.{list_at, nodes_of}
use Rattle.call_table.specs.Sites.{site_eq-decides}
use Rattle.call_table.specs.Views.{call_at, exit_view, listing, numbers, place_view, places_view, rule_view, summary_view, IsMetAt}
use Rattle.call_table.specs.declared.call.Call.{Call}
use Rattle.call_table.specs.declared.call.CallTable.{CallTable}
use Rattle.call_table.specs.declared.call.Exit.{Exit}
use Rattle.call_table.specs.declared.call.Place.{Place}
use Rattle.call_table.specs.declared.call.Rule.{Rule}
use Rattle.call_table.specs.declared.site.Site.{Site}
use Rattle.call_nodes.specs.Nodes.{state_at}
use Rattle.call_nodes.specs.declared.call_nodes.CallNodes.{CallNodes}
use Rattle.call_proof.specs.Parts.{block_at, frame_at, IsWholeCall, IsFollowedBy, IsClosedCall, AreClosedCalls}

module _ (n : CallNodes) (masks : List (List ℕ)) (table : CallTable) where
  -- what is met in a state of a call
  abbrev IsMetThere : Call → State → List ℕ → ℕ → Type 0
  IsMetThere c s nodes steps =
      IsMetIn (state_at n) (frame_at n masks) (numbers n.lists table) (listing table) (nodes_of n.lists.counts)
      (summary_view c) (places_view n.lists c) s nodes steps

  -- what is met at a number is met in each state that it stands for
  met_there : (c : Call) (k : ℕ) (s : State) (nodes : List ℕ) (steps more : ℕ) → state_at n k ≡ s → steps ≡ more
      → IsMetAt n.lists c k nodes steps → IsMetThere c s nodes more
  met_there c k s nodes steps more is same (inl floor) = inl (omega arith)
  met_there c k s nodes steps more is same (inr m) =
      inr (m.0, m.1, ap (state_at n) m.2 ∙ is, m.3, (let l = m.4 in omega arith))

  -- a lifted call has an exit for each of the one in the part
  has_exit : (i j : ℕ) (inner : Call) (whole : IsWholeCall n masks table i j inner) (e : model.Exit ℕ)
      → Contains whole.summary.exits e
      → (x : Exit) × Contains inner.exits.items x
      × (state_at n x.state ≡ lift (frame_at n masks j) (state_at n i) (state_at n e.state)) × (x.cost ≡ e.cost)
  has_exit i j inner whole e there =
      let to = exit_of (state_at n) (block_at n) in
      let up = lifted_exit (state_at n) (block_at n) (frame_at n masks) j (state_at n i) in
      let same : map up whole.summary.exits ≡ map to (map exit_view inner.exits.items) =
      sym (ap (λ (u : model.Summary State). u.exits) whole.lifted) in
      let stands : Contains (map to (map exit_view inner.exits.items)) (up e) =
      subst (λ xs. Contains xs (up e)) same (mapped_in up e whole.summary.exits there) in
      let one = in_mapped to (up e) (map exit_view inner.exits.items) stands in
      let two = in_mapped exit_view one.0 inner.exits.items one.1 in
      let is : to (exit_view two.0) ≡ up e = ap to two.2 ∙ one.2 in
      (two.0, two.1, ap (λ (x : model.Exit State). x.state) is, ap (λ (x : model.Exit State). x.cost) is)

  -- a node of a place is followed as a call
  pub called_in : (c inner : Call) (caller i j : ℕ) (rest : List ℕ) (steps : ℕ)
      → IsInside (frame_at n masks j) (frame_at n masks caller) → IsWholeCall n masks table i j inner
      → c.floor ≤ steps + (inner.floor + nodes_of n.lists.counts rest)
      → All (λ (e : Exit). IsMetAt n.lists c e.state rest (steps + e.cost)) inner.exits.items
      → IsFollowedBy n masks table c caller i (j ∷ rest) steps
  called_in c inner caller i j rest steps inside whole floor exits = record {
    part = whole.part;
    summary = whole.summary;
    is_part = whole.is_part;
    listed = whole.listed;
    inside = inside;
    met = λ e there.
        (let x = has_exit i j inner whole e there in
        met_there c x.0.state (lift (frame_at n masks j) (state_at n i) (state_at n e.state)) rest (steps + x.0.cost)
        (steps + e.cost) x.2 (ap (λ k. steps + k) x.3)
        (All-contains (λ (y : Exit). IsMetAt n.lists c y.state rest (steps + y.cost)) inner.exits.items x.0 exits x.1));
    floor =
        (let same : inner.floor ≡ whole.summary.floor = ap (λ (u : model.Summary State). u.floor) whole.lifted in
        omega arith);
  }

  -- by the list of its nodes
  pub followed_in : (c : Call) (caller i steps j : ℕ) (rest nodes : List ℕ) → nodes ≡ j ∷ rest
      → IsFollowedBy n masks table c caller i (j ∷ rest) steps → IsFollowedBy n masks table c caller i nodes steps
  followed_in c caller i steps j rest nodes e called =
      subst (λ ns. IsFollowedBy n masks table c caller i ns steps) (sym e) called

  -- where no node is left, the end is covered
  pub ended_in : (c : Call) (caller i steps : ℕ) (nodes : List ℕ) → nodes ≡ [] → Covers (summary_view c) i steps
      → IsFollowedBy n masks table c caller i nodes steps
  ended_in c caller i steps nodes e covered =
      subst (λ ns. IsFollowedBy n masks table c caller i ns steps) (sym e) covered

  -- a call whose rules are met and whose places are followed is closed
  pub closed_in : (c : Call) (i j : ℕ) → call_at table i j ≡ Some c
      → All (λ (r : Rule). IsMetAt n.lists c r.state (list_at n.lists r.blocks) 1) c.rules.items
      → All (λ (p : Place). IsFollowedBy n masks table c j p.state (list_at n.lists p.blocks) p.distance) c.places.items
      → IsClosedCall n masks table i j c
  closed_in c i j is rules places = record {
    places = places_view n.lists c;
    rules_of = map (rule_view n.lists) c.rules.items;
    known = ap (option_map (λ (x : Call). map (rule_view n.lists) x.rules.items)) is;
    met = λ r there.
        (let m = in_mapped (rule_view n.lists) r c.rules.items there in
        subst (λ (y : model.Rule ℕ ℕ). IsMetThere c (state_at n y.state) y.blocks 1) m.2
        (met_there c m.0.state (state_at n m.0.state) (list_at n.lists m.0.blocks) 1 1 refl refl
        (All-contains (λ (x : Rule). IsMetAt n.lists c x.state (list_at n.lists x.blocks) 1) c.rules.items m.0 rules m.1)));
    followed = λ p there.
        (let m = in_mapped (place_view n.lists) p c.places.items there in
        subst (λ (y : model.Place ℕ ℕ). IsFollowedBy n masks table c j y.state y.blocks y.distance) m.2
        (All-contains (λ (x : Place). IsFollowedBy n masks table c j x.state (list_at n.lists x.blocks) x.distance)
        c.places.items m.0 places m.1));
  }

  -- calls that are all closed are a closed table
  pub all_closed_in : All (λ (p : Site × Call). IsClosedCall n masks table p.0.state p.0.number p.1) table.calls.entries
      → AreClosedCalls n masks table
  all_closed_in all i j u listed = by (call_at table i j) refl listed
    where
      by : (o : Option Call) → call_at table i j ≡ o → option_map summary_view o ≡ Some u
          → IsClosedIn (state_at n) (frame_at n masks) (numbers n.lists table) (listing table) (nodes_of n.lists.counts)
          i j u
      by None e h = absurd cc
      by (Some c) e h =
          let site : Site = record { state = i; number = j } in
          let stands : Contains table.calls.entries (site, c) =
          Contains-from_lookup (λ x y. (site_eq-decides x y).0) site c table.calls.entries e in
          let is : IsClosedCall n masks table i j c =
          All-contains (λ (p : Site × Call). IsClosedCall n masks table p.0.state p.0.number p.1) table.calls.entries
          (site, c) all stands in
          let same : summary_view c ≡ u = cc in
          subst
          (IsClosedIn (state_at n) (frame_at n masks) (numbers n.lists table) (listing table) (nodes_of n.lists.counts)
          i j)
          same is
