-- Whether the lines of a file have room among its action lines can be decided.
use Rattle.std.proofs.Common.{◌≡◌, ℕ, zero, suc, ◌≤◌, ◌<◌, List, [], ◌∷◌, ◌++◌, length, Option, Some, None, slice_get, bytes_eq, true, ◌⊎◌, inl, inr, refl, ap, subst, arith}
use Rattle.std.proofs.lemmas.Bool.{cases_lt}
use Rattle.std.proofs.lemmas.Slice.Eq.{bytes_eq-Decides}
use Rattle.htn_model.specs.Equality.{child_eq-decides}
use Rattle.htn_model.specs.State.{State}
use Rattle.htn_model.specs.Problem.{IsGrounded, IsNetwork, Child, precondition, child_eq, Network, Problem, is_before}
use Rattle.htn_model.specs.PlanFile.{Naming, IsRearrangementOf}
use Rattle.htn_model.specs.Fits.{PlanTree, action_at, decomposition, PlanTrees, no_plans, plan, child_of, subtask_positions, StandAt, IsMatching, Fits, NetworkFits, ForestFits}
use Rattle.htn_model.specs.Greedy.{PlanHasRoom, HasRoomAt, IsGreedy, HaveSpans, LineTable, LineTables, GreedyDecides}
use Rattle.htn_model.proofs.Greedy.{greedy_spans_decide}
use Rattle.htn_model.proofs.Splices.{square_past_left}
use Rattle.htn_review.proofs.Decided.{Decided, by_test, both, likewise, no_greater, all_below, first_up_to, some_at, search_splits}

-- ## Matchings

-- a position has a given child
stands_at : (o : Option Child) (c : Child) → Decided (o ≡ Some c)
stands_at None c = inr (λ e. absurd cc)
stands_at (Some b) c = likewise (λ e. ap Some e) (λ e. (let same : b ≡ c = cc in same)) (by_test (child_eq b c) (child_eq-decides b c))

-- Some matching of plans to positions gives a result, or none has the property.
search_matchings : {Q : Type 0} (children : List Child) (plans : PlanTrees) (free : List ℕ) (P : List ℕ → Type 0)
    → ((positions : List ℕ) → IsRearrangementOf positions free → StandAt children positions plans → Q ⊎ (P positions → ⊥))
    → Q ⊎ ((positions : List ℕ) → IsRearrangementOf positions free → StandAt children positions plans → P positions → ⊥)
search_matchings {Q = Q} children no_plans [] P d = by (d [] refl refl)
  where
    by : Q ⊎ (P [] → ⊥) → Q ⊎ ((positions : List ℕ) → IsRearrangementOf positions [] → positions ≡ [] → P positions → ⊥)
    by (inl found) = inl found
    by (inr never) = inr (λ positions r none h. never (subst P none h))
search_matchings children no_plans (a ∷ free) P d =
    inr (λ positions r none h. let e : a ∷ free ≡ [] = subst (λ ps. IsRearrangementOf ps (a ∷ free)) none r in absurd cc)
search_matchings {Q = Q} children (plan p plans) free P d =
    by (search_splits
    (λ left a right. (rest : List ℕ) × IsRearrangementOf rest (left ++ right) × (slice_get children a ≡ Some (child_of p)) × StandAt children rest plans × P (a ∷ rest)) free
    (λ left a right is. at left a right is (stands_at (slice_get children a) (child_of p))
    (λ here. search_matchings children plans (left ++ right) (λ rest. P (a ∷ rest)) (λ rest r stand. d (a ∷ rest) (left, right, is, r) (here, stand)))))
  where
    at : (left : List ℕ) (a : ℕ) (right : List ℕ) → free ≡ left ++ a ∷ right → Decided (slice_get children a ≡ Some (child_of p))
        → (slice_get children a ≡ Some (child_of p) → Q ⊎ ((rest : List ℕ) → IsRearrangementOf rest (left ++ right) → StandAt children rest plans → P (a ∷ rest) → ⊥))
        → Q ⊎ ((rest : List ℕ) × IsRearrangementOf rest (left ++ right) × (slice_get children a ≡ Some (child_of p)) × StandAt children rest plans × P (a ∷ rest) → ⊥)
    at left a right is (inr never) more = inr (λ h. never h.2)
    at left a right is (inl here) more = elim (more here) [
      | inl found ↦ inl found
      | inr none ↦ inr (λ h. none h.0 h.1 h.3 h.4)
    ]

    by : Q ⊎ ((left : List ℕ) (a : ℕ) (right : List ℕ) → free ≡ left ++ a ∷ right
        → (rest : List ℕ) × IsRearrangementOf rest (left ++ right) × (slice_get children a ≡ Some (child_of p)) × StandAt children rest plans × P (a ∷ rest) → ⊥)
        → Q ⊎ ((positions : List ℕ) → IsRearrangementOf positions free → StandAt children positions (plan p plans) → P positions → ⊥)
    by (inl found) = inl found
    by (inr none) = inr never
      where
        never : (positions : List ℕ) → IsRearrangementOf positions free → StandAt children positions (plan p plans) → P positions → ⊥
        never [] r stand h = stand
        never (a ∷ positions) (left, right, is, r) stand h = none left a right is (positions, r, stand.0, stand.1, h)

-- ## Networks

module _ (naming : Naming) (problem : Problem) (states : ℕ → State) where
  module _ (network : Network) (is_network : IsNetwork network) (plans : PlanTrees) (tables : (n : ℕ) → LineTables naming problem states n plans) where
    -- what is before a position stands below the end
    within : (a b : ℕ) → is_before network.order b a ≡ true → b < length network.children
    within a b before = elim (cases_lt b (length network.children)) [
      | inl low ↦ low
      | inr past ↦ (let none = square_past_left (length network.children) network.order b a is_network.square past in absurd cc)
    ]

    module _ (positions : List ℕ) (matching : IsMatching network.children positions plans) (g h : ℕ) where
      -- spans in which the plans at these positions have room
      abbrev Spans : Type 0
      Spans = (start : ℕ → ℕ) × (finish : ℕ → ℕ) × HaveSpans naming problem states network positions plans g h start finish

      -- a child stands below the end
      child_within : (children : List Child) (a : ℕ) (c : Child) → slice_get children a ≡ Some c → a < length children
      child_within [] a c e = absurd cc
      child_within (d ∷ children) zero c e = omega arith
      child_within (d ∷ children) (suc a) c e = let more = child_within children a c e in omega arith

      -- no plan stands past the end
      plans_past : (xs : List ℕ) (ps : PlanTrees) (a x y : ℕ) → StandAt network.children xs ps → length network.children ≤ a → PlanHasRoom naming problem states xs ps a x y
      plans_past xs no_plans a x y stand past = tt
      plans_past [] (plan p ps) a x y stand past = tt
      plans_past (b ∷ xs) (plan p ps) a x y stand past = (
        (λ same. let low = child_within network.children b (child_of p) stand.0 in absurd (omega arith)),
        plans_past xs ps a x y stand.1 past,
      )

      -- and nothing else does
      nothing_past : (a x : ℕ) → length network.children ≤ a → HasRoomAt naming problem states network positions plans a x x
      nothing_past a x past = record {
        forward = omega arith;
        step = λ literals e. (let low = child_within network.children a (precondition literals) e in absurd (omega arith));
        plan = plans_past positions plans a x x matching.stand past;
      }

      -- what greedy spans tell
      decide : GreedyDecides naming problem states network positions plans
      decide = (greedy_spans_decide naming problem).at_positions states network positions plans is_network

      -- all have finished where those of the network have
      all_finish : (start finish : ℕ → ℕ) → IsGreedy naming problem states network positions plans g start finish → g ≤ h
          → ((a : ℕ) → a < length network.children → finish a ≤ h) → (a : ℕ) → finish a ≤ h
      all_finish start finish greedy forward low a = elim (cases_lt a (length network.children)) [
        | inl inside ↦ low a inside
        | inr past ↦ (let at_start : finish a ≤ start a = (greedy.earliest a).least (start a) (nothing_past a (start a) past) in
            let soon : start a ≤ h = greedy.soonest a h forward (λ b before. low b (within a b before)) in omega arith)
      ]

      -- the plans have room from the first gap to the last, or no spans at these positions
      at_positions : NetworkFits naming problem states network plans g h ⊎ (Spans → ⊥)
      at_positions = by (decide.exist g h matching ((greedy_spans_decide naming problem).tables states network positions plans h (tables h))) (no_greater g h)
        where
          by : ((start : ℕ → ℕ) × (finish : ℕ → ℕ) × IsGreedy naming problem states network positions plans g start finish)
              ⊎ ((k : ℕ) (start finish : ℕ → ℕ) → k ≤ h → HaveSpans naming problem states network positions plans g k start finish → ⊥)
              → Decided (g ≤ h) → NetworkFits naming problem states network plans g h ⊎ (Spans → ⊥)
          by found (inr backward) =
              inr (λ s. backward (let low = s.2.spans.from 0 in let on = s.2.spans.forward 0 in let high = s.2.spans.to 0 in omega arith))
          by (inr none) (inl forward) = inr (λ s. none h s.0 s.1 (omega arith) s.2)
          by (inl (start, finish, greedy)) (inl forward) = elim (all_below (λ a. finish a ≤ h) (λ a. no_greater (finish a) h) (length network.children)) [
            | inl low ↦ inl (decide.fit g h start finish matching greedy (all_finish start finish greedy forward low))
            | inr high ↦ inr (λ s. high (λ a inside. (let sooner = decide.least g h start finish s.0 s.1 matching greedy s.2 a in let end = s.2.spans.to a in omega arith)))
          ]

  -- the plans have room in the network
  network_decided : (network : Network) → IsNetwork network → (plans : PlanTrees) → ((n : ℕ) → LineTables naming problem states n plans)
      → (g h : ℕ) → Decided (NetworkFits naming problem states network plans g h)
  network_decided network is_network plans tables g h =
      by (search_matchings network.children plans (subtask_positions 0 network.children)
      (λ positions. (start : ℕ → ℕ) × (finish : ℕ → ℕ) × HaveSpans naming problem states network positions plans g h start finish)
      (λ positions r stand. at_positions network is_network plans tables positions (record { each_once = r; stand = stand }) g h))
    where
      by : NetworkFits naming problem states network plans g h
          ⊎ ((positions : List ℕ) → IsRearrangementOf positions (subtask_positions 0 network.children) → StandAt network.children positions plans
          → (start : ℕ → ℕ) × (finish : ℕ → ℕ) × HaveSpans naming problem states network positions plans g h start finish → ⊥)
          → Decided (NetworkFits naming problem states network plans g h)
      by (inl fits) = inl fits
      by (inr none) = inr (λ (positions, matching, start, finish, spans, steps, fit).
          none positions matching.each_once matching.stand (start, finish, record { spans = spans; steps = steps; fits = fit }))

  -- ## Lines

  -- the table of a line of which room can be decided
  table_of : (p : PlanTree) → ((g h : ℕ) → Decided (Fits naming problem states p g h)) → (n : ℕ) → LineTable naming problem states n p
  table_of p d n x = elim (first_up_to (Fits naming problem states p x) (d x) n) [
    | inl found ↦ inl (found.0, record { fits = found.1; least = found.2 })
    | inr none ↦ inr none
  ]

  module _ (grounded : IsGrounded problem) where
    mutual
      -- everything below a line has room from gap g to gap h
      fits_decided : (p : PlanTree) (g h : ℕ) → Decided (Fits naming problem states p g h)
      fits_decided (action_at t i) g h = both (no_greater g i) (no_greater (suc i) h)
      fits_decided (decomposition t method plans) g h =
          likewise (λ f. (f.0, f.1, f.2, f.3.0, f.3.1)) (λ f. (f.0, f.1, f.2, (f.3, f.4)))
          (some_at (λ number network. (method ≡ naming.method_name t number) × NetworkFits naming problem states network plans g h) (problem.methods_of t)
          (λ number network is. both (by_test (bytes_eq method (naming.method_name t number)) (bytes_eq-Decides method (naming.method_name t number)))
          (network_decided network (grounded.methods t number network is) plans (tables_of plans) g h)))

      -- the tables of lines
      tables_of : (plans : PlanTrees) (n : ℕ) → LineTables naming problem states n plans
      tables_of no_plans n = tt
      tables_of (plan p plans) n = (table_of p (fits_decided p) n, tables_of plans n)

    -- the roots' lines have room
    pub forest_fits_decided : (plans : PlanTrees) (n : ℕ) → Decided (ForestFits naming problem states plans n)
    forest_fits_decided plans n =
        some_at (λ number network. NetworkFits naming problem states network plans 0 n) problem.initials
        (λ number network is. network_decided network (grounded.initials number network is) plans (tables_of plans) 0 n)
