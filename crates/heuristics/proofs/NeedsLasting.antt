-- What may end after a live step might before it.
use Rattle.std.proofs.Common.{◌≡◌, ℕ, suc, ◌+◌, ◌-◌, ◌<◌, ◌≤◌, Bool, true, false, not, cond, ◌&&◌, ◌||◌, eqb, List, [], ◌++◌, length, take, drop, filter, Contains, Option, Some, None, ◌⊎◌, inl, inr, refl, sym, ap, ap₂, ◌∙◌, subst, arith}
use Rattle.std.specs.List.{list_any, range_with_len}
use Rattle.std.proofs.lemmas.Bool.{and_from, and_parts, both_ways, cases_eq, cases_lt, eq-eqb, eqb-false, false_from_ne_true, ne_eqb, not-true, not_from_false}
use Rattle.std.proofs.lemmas.List.Elements.{at_from_Contains, Contains-append_left, Contains-append_right, Contains-get_or}
use Rattle.htn_model.specs.State.{State, contains}
use Rattle.htn_model.specs.Literal.{Literal, atom, equality, Action, after, holds, literal_holds}
use Rattle.htn_model.specs.Problem.{Child, precondition, action, task, GroundTask, IsGrounded, Network, Problem, is_before, perform, perform_action}
use Rattle.htn_model.specs.Choice.{child_of, is_free}
use Rattle.htn_model.specs.Machine.{Config, Choice, result_of, IsDone, origin, replaced_order}
use Rattle.htn_model.specs.Exhaustion.{is_dead}
use Rattle.htn_model.proofs.Passing.{passes, free_none}
use Rattle.htn_model.proofs.Sets.{contains-after}
use Rattle.htn_model.proofs.Splices.{Inside, Outside, outside_once, places_of_splice, table_within, length_splice, origin_below, origin_above}
use Rattle.htn_model.proofs.Steps.{Decomposes, Executes, chosen}
use Rattle.htn_model.proofs.Regrown.{choice_within}
use Rattle.task_graph.specs.Barred.{is_barred, is_barred_by}
use Rattle.heuristics.specs.Measure.{is_as_at_first}
use Rattle.heuristics.proofs.SizesBounds.{live_choice}
use Rattle.heuristics.proofs.StatesLast.{agreed, alive_literals}
use Rattle.heuristics.specs.Needs.{Outlook, IsNeededAt, IsOutlook, IsWithin, NeedsStay, may_give, is_ungiven, needed_at, needed, needed_goal, has_blocked, network_of, may_end}
use Rattle.heuristics.proofs.MarkLists.{all_from, contains_none, each_passes, filtered, in_range, join, joined, kept, none_from, none_passes, range_has}

-- ## What a network needs, by its positions

-- one of three tests fails, the first two of which pass
third : (a b c : Bool) → a ≡ false → b ≡ false → (not a && (not b && c)) ≡ false → c ≡ false
third a b c first second fails = sym (ap₂ (λ x y. not x && (not y && c)) first second) ∙ fails

-- no node may give what is not given
pub ungiven_at : (o : Outlook) (n : Network) (l : Literal) (i j : ℕ) → is_ungiven o n i l ≡ true → j < length n.children → (i ≡ j → ⊥) → is_before n.order i j ≡ false
    → o.gives (child_of n.children j) l ≡ false
ungiven_at o n l i j none low other before =
    third (eqb i j) (is_before n.order i j) (o.gives (child_of n.children j) l) (ne_eqb i j other) before
    (none_passes (may_give o n l i) (range_with_len 0 (length n.children)) j (not-true _ none) (range_has 0 (length n.children) j (omega arith) (omega arith)))

-- one of three tests fails where the last does, unless one of the first two is passed
fails : (a b c : Bool) → (a ≡ false → b ≡ false → c ≡ false) → (not a && (not b && c)) ≡ false
fails true b c h = refl
fails false true c h = refl
fails false false c h = h refl refl

-- what no node may give is not given
ungiven_from : (o : Outlook) (n : Network) (l : Literal) (i : ℕ)
    → ((j : ℕ) → j < length n.children → (i ≡ j → ⊥) → is_before n.order i j ≡ false → o.gives (child_of n.children j) l ≡ false) → is_ungiven o n i l ≡ true
ungiven_from o n l i none =
    not_from_false _ (none_from (may_give o n l i) (range_with_len 0 (length n.children))
    (λ j at. (let low = in_range 0 (length n.children) j at in
    fails (eqb i j) (is_before n.order i j) (o.gives (child_of n.children j) l) (λ other before. none j (omega (arith, low)) (eqb-false i j other) before))))

-- what is needed is needed at a position
pub needed_from : (o : Outlook) (n : Network) (l : Literal) → Contains (needed o n) l → (i : ℕ) × IsNeededAt o n l i
needed_from o n l at =
    let found = joined (needed_at o n) (range_with_len 0 (length n.children)) l at in
    let low = in_range 0 (length n.children) found.0 found.1 in
    let parts = filtered (is_ungiven o n found.0) (o.wants (child_of n.children found.0)) l found.2 in
    (found.0, record { within = omega (arith, low); wants = parts.0; ungiven = λ j low other before. ungiven_at o n l found.0 j parts.1 low other before })

-- what is needed at a position is needed
pub is_needed : (o : Outlook) (n : Network) (l : Literal) (i : ℕ) → IsNeededAt o n l i → Contains (needed o n) l
is_needed o n l i needs =
    join (needed_at o n) (range_with_len 0 (length n.children)) i l (range_has 0 (length n.children) i (omega arith) (omega (arith, needs.within)))
    (kept (is_ungiven o n i) (o.wants (child_of n.children i)) l needs.wants (ungiven_from o n l i needs.ungiven))

-- ## What carrying out a node leaves as it was

-- a test on which a state depends was passed
cond_passed : (b : Bool) (s next : State) → cond b (Some s) None ≡ Some next → (b ≡ true) × (s ≡ next)
cond_passed true s next h = (refl, (let same : s ≡ next = cc in same))
cond_passed false s next h = absurd cc

-- an atom that became true by what was not added was true
was_true : (a s d : Bool) → a ≡ false → (a || (s && not d)) ≡ true → s ≡ true
was_true a true d none h = refl
was_true true false d none h = absurd cc
was_true false false d none h = absurd cc

-- an atom that is false though it was not deleted was false
was_false : (a s d : Bool) → d ≡ false → not (a || (s && not d)) ≡ true → not s ≡ true
was_false a false d none h = refl
was_false true true d none h = absurd cc
was_false false true true none h = absurd cc
was_false false true false none h = absurd cc

-- two positions that aren't both one are told apart
not_both : (a b i : ℕ) (s t : Bool) → (a ≡ i → b ≡ i → ⊥) → cond (eqb a i && eqb b i) s t ≡ t
not_both a b i s t other = elim (cases_eq a i) [
  | inl same ↦ rw (eq-eqb a i same, ne_eqb b i (other same)) refl
  | inr differs ↦ rw (ne_eqb a i differs) refl
]

-- two that are one aren't
both : (a b i : ℕ) (s t : Bool) → a ≡ i → b ≡ i → cond (eqb a i && eqb b i) s t ≡ s
both a b i s t first second = rw (eq-eqb a i first, eq-eqb b i second) refl

module _ (problem : Problem) (grounded : IsGrounded problem) (o : Outlook) (right : IsOutlook problem o) where
  -- what an action does not give held before
  held_before_effect : (g : GroundTask) (a : Action) (s : State) (l : Literal) → problem.action_of g ≡ Some a → o.gives (action g) l ≡ false
      → literal_holds (after s a) l ≡ true → literal_holds s l ≡ true
  held_before_effect g a s (atom true x) is none holds =
      was_true (contains a.adds x) (contains s x) (contains a.deletes x) (false_from_ne_true _ (λ added. both_ways _ none (right.adds g a x is added))) (sym (contains-after s a x) ∙ holds)
  held_before_effect g a s (atom false x) is none holds =
      was_false (contains a.adds x) (contains s x) (contains a.deletes x) (false_from_ne_true _ (λ deleted. both_ways _ none (right.deletes g a x is deleted)))
      (sym (ap not (contains-after s a x)) ∙ holds)
  held_before_effect g a s (equality true x y) is none holds = holds
  held_before_effect g a s (equality false x y) is none holds = holds

  -- what an action that is carried out does: its precondition holds
  performed_action : (g : GroundTask) (s next : State) (b : Option Action) → problem.action_of g ≡ b → perform_action s b ≡ Some next
      → (a : Action) × (problem.action_of g ≡ Some a) × (holds s a.precondition ≡ true) × (after s a ≡ next)
  performed_action g s next None is h = absurd cc
  performed_action g s next (Some a) is h = let parts = cond_passed (holds s a.precondition) (after s a) next h in (a, is, parts.0, parts.1)

  -- what a node that is carried out does not give held before
  held_before : (s next : State) (x : Child) (l : Literal) → perform problem s x ≡ Some next → o.gives x l ≡ false → literal_holds next l ≡ true → literal_holds s l ≡ true
  held_before s next (precondition literals) l is none held =
      subst (λ (t : State). literal_holds t l ≡ true) (sym (cond_passed (holds s literals) s next is).1) held
  held_before s next (action g) l is none holds =
      let made = performed_action g s next (problem.action_of g) refl is in
      held_before_effect g made.0 s l made.1 none (subst (λ (t : State). literal_holds t l ≡ true) (sym made.3) holds)
  held_before s next (task g) l is none holds = absurd cc

  -- what it wants holds
  wanted_holds : (s next : State) (x : Child) (l : Literal) → perform problem s x ≡ Some next → Contains (o.wants x) l → literal_holds s l ≡ true
  wanted_holds s next (precondition literals) l is wants =
      each_passes (literal_holds s) literals l (cond_passed (holds s literals) s next is).0 (right.step_wants literals l wants)
  wanted_holds s next (action g) l is wants =
      let made = performed_action g s next (problem.action_of g) refl is in
      each_passes (literal_holds s) made.0.precondition l made.2 (right.action_wants g made.0 l made.1 wants)
  wanted_holds s next (task g) l is wants = absurd cc

  -- and it ends
  performed_ends : (s next : State) (x : Child) → is_as_at_first problem s ≡ true → perform problem s x ≡ Some next → o.is_blocked x ≡ false
  performed_ends s next (precondition literals) passes is = right.step_ends literals
  performed_ends s next (action g) passes is =
      let made = performed_action g s next (problem.action_of g) refl is in
      let alive : is_barred problem g ≡ false = ap (is_barred_by problem) made.1 ∙ alive_literals problem grounded s made.0.precondition (agreed problem grounded s passes) made.2 in
      false_from_ne_true _ (λ blocked. both_ways _ alive (right.action_ends g blocked))
  performed_ends s next (task g) passes is = absurd cc

  -- ## A choice

  module _ (c : Config) (number : ℕ) (choice : Choice) (kinds : Decomposes problem c number choice ⊎ Executes problem c number choice) where
    -- the position of what is replaced
    abbrev k : ℕ
    k = choice.position

    -- the nodes in its place
    abbrev inner : List Child
    inner = choice.network.children

    -- how many they are
    abbrev m : ℕ
    m = length inner

    -- the network before, and after
    abbrev old : Network
    old = network_of c

    -- the network after the step
    abbrev new : Network
    new = network_of (result_of c choice)

    -- it is one of the nodes
    here : k < length c.open_nodes
    here = choice_within problem c number choice kinds

    -- where a position of the new network comes from
    abbrev from : ℕ → ℕ
    from = origin k m

    -- each position of the new network is among the new nodes or outside
    abbrev Among : ℕ → Type 0
    Among a = Inside k inner c.open_nodes (precondition []) a

    -- the position is none of the new nodes'
    abbrev Apart : ℕ → Type 0
    Apart a = Outside k inner c.open_nodes (precondition []) a

    -- a position is one of the new nodes' or none
    at : (a : ℕ) → Among a ⊎ Apart a
    at a = places_of_splice k inner c.open_nodes (precondition []) a here

    -- two positions of which not both are in the place of the node are ordered as what they come from
    ordered : (a b : ℕ) → a < length new.children → b < length new.children → (from a ≡ k → from b ≡ k → ⊥) → is_before new.order a b ≡ is_before old.order (from a) (from b)
    ordered a b low high other =
        table_within (length new.children) (replaced_order c.order k m choice.network.order) a b low high
        ∙ not_both (from a) (from b) k (is_before choice.network.order (a - k) (b - k)) (is_before old.order (from a) (from b)) other

    -- two in its place as in the instance
    ordered_within : (a b : ℕ) → a < length new.children → b < length new.children → from a ≡ k → from b ≡ k → is_before new.order a b ≡ is_before choice.network.order (a - k) (b - k)
    ordered_within a b low high first second =
        table_within (length new.children) (replaced_order c.order k m choice.network.order) a b low high
        ∙ both (from a) (from b) k (is_before choice.network.order (a - k) (b - k)) (is_before old.order (from a) (from b)) first second

    -- the place of another node in the new network
    pub record Stays (i : ℕ) : Type 0 where
      pub place : ℕ
      pub within : place < length new.children
      pub from_it : from place ≡ i
      pub apart : Apart place

    -- each other node stays
    stays : (i : ℕ) → i < length c.open_nodes → (i ≡ k → ⊥) → Stays i
    stays i low other = by (cases_lt i k)
      where
        by : (i < k) ⊎ (k ≤ i) → Stays i
        by (inl less) =
            let long = length_splice k inner c.open_nodes here in
            let from_i = origin_below k m i less in
            record {
              place = i;
              within = omega (arith, long, here);
              from_it = from_i;
              apart = elim (at i) [ inl p ↦ absurd (other (sym from_i ∙ p.from)) | inr q ↦ q ];
            }
        by (inr past) =
            let long = length_splice k inner c.open_nodes here in
            let more : k < i = elim (cases_lt k i) [ inl less ↦ less | inr same ↦ absurd (other (omega arith)) ] in
            let above : k + m ≤ i + m - 1 = omega arith in
            let from_i : origin k m (i + m - 1) ≡ i = origin_above k m (i + m - 1) above ∙ (let e : i + m - 1 + 1 - m ≡ i = omega arith in e) in
            record {
              place = i + m - 1;
              within = omega (arith, long, here);
              from_it = from_i;
              apart = elim (at (i + m - 1)) [ inl p ↦ absurd (other (sym from_i ∙ p.from)) | inr q ↦ q ];
            }

    -- what a new node gives the one in whose place it stands gives
    abbrev Gives : Type 0
    Gives = (l : Literal) (x : Child) → Contains inner x → o.gives x l ≡ true → o.gives (child_of c.open_nodes k) l ≡ true

    module _ (gives : Gives) where
      -- what the nodes before do not give those after do not
      gives_none : (l : Literal) (b : ℕ) → b < length new.children → (from b < length c.open_nodes → o.gives (child_of c.open_nodes (from b)) l ≡ false) → o.gives (child_of new.children b) l ≡ false
      gives_none l b low none = elim (at b) [
        | inl p ↦ false_from_ne_true _ (λ given. (
            let there = Contains-get_or inner p.offset (precondition []) p.within in
            let it = gives l (child_of inner p.offset) there (sym (ap (λ x. o.gives x l) p.element) ∙ given) in
            both_ways _ (none (let e = p.from in omega (arith, e, here))) (ap (λ i. o.gives (child_of c.open_nodes i) l) p.from ∙ it)))
        | inr q ↦ ap (λ x. o.gives x l) q.element ∙ none (q.within low)
      ]

      -- what another node needs it needs after
      needs_stays : (l : Literal) (i : ℕ) → IsNeededAt o old l i → (i ≡ k → ⊥) → Contains (needed o new) l
      needs_stays l i needs other =
          let s = stays i needs.within other in
          is_needed o new l s.place (record {
            within = s.within;
            wants = subst (λ x. Contains (o.wants x) l) (sym (s.apart.element ∙ ap (child_of c.open_nodes) s.from_it)) needs.wants;
            ungiven = λ b low differs before. gives_none l b low (λ inside. needs.ungiven (from b) inside (apart s b differs) (same s b low before));
          })
        where
          apart : (s : Stays i) (b : ℕ) → (s.place ≡ b → ⊥) → i ≡ from b → ⊥
          apart s b differs same = elim (at b) [
            | inl p ↦ other (same ∙ p.from)
            | inr q ↦ differs (outside_once k inner c.open_nodes (precondition []) s.place b s.apart q (s.from_it ∙ same))
          ]

          same : (s : Stays i) (b : ℕ) → b < length new.children → is_before new.order s.place b ≡ false → is_before old.order i (from b) ≡ false
          same s b low before =
              sym (ap (λ j. is_before old.order j (from b)) s.from_it) ∙ sym (ordered s.place b s.within low (λ first second. s.apart.from first)) ∙ before

      -- what the node itself needs, where the instance needs it, is needed after
      needs_within : (l : Literal) → IsNeededAt o old l k → (j : ℕ) → IsNeededAt o choice.network l j → Contains (needed o new) l
      needs_within l outer j needs =
          let long = length_splice k inner c.open_nodes here in
          let low : k + j < length new.children = (let w = needs.within in omega (arith, long, w, here)) in
          is_needed o new l (k + j) (by low (at (k + j)))
        where
          by : k + j < length new.children → Among (k + j) ⊎ Apart (k + j) → IsNeededAt o new l (k + j)
          by low (inr q) = absurd (let w = needs.within in let s = q.side in omega (arith, w, s))
          by low (inl p) =
              let same : p.offset ≡ j = (let e = p.is in omega (arith, e)) in
              record {
                within = low;
                wants = subst (λ x. Contains (o.wants x) l) (sym (p.element ∙ ap (child_of inner) same)) needs.wants;
                ungiven = λ b high differs before. elim (at b) [
                  | inl r ↦ ap (λ x. o.gives x l) r.element
                      ∙ needs.ungiven r.offset r.within
                      (λ e. differs (let f = r.is in omega (arith, e, f)))
                      (let first : k + j - k ≡ j = omega arith in
                      let second : b - k ≡ r.offset = (let f = r.is in omega (arith, f)) in
                      sym (ap₂ (is_before choice.network.order) first second) ∙ sym (ordered_within (k + j) b low high p.from r.from) ∙ before)
                  | inr q ↦ ap (λ x. o.gives x l) q.element
                      ∙ outer.ungiven (from b) (q.within high) (λ e. q.from (sym e))
                      (sym (ap (λ i. is_before old.order i (from b)) p.from) ∙ sym (ordered (k + j) b low high (λ first second. q.from second)) ∙ before)
                ];
              }

    -- no node of the instance never ends where none does after
    inner_ends : has_blocked o new ≡ false → has_blocked o choice.network ≡ false
    inner_ends none =
        none_from o.is_blocked inner (λ x at. none_passes o.is_blocked new.children x none
        (Contains-append_right (take k c.open_nodes) (inner ++ drop (suc k) c.open_nodes) x (Contains-append_left inner (drop (suc k) c.open_nodes) x at)))

    -- a node that is carried out is free
    free : Executes problem c number choice → (i : ℕ) → i < length c.open_nodes → is_before c.order i k ≡ false
    free e i low =
        free_none (length c.open_nodes) (is_before c.order) k i (passes (is_free (length c.open_nodes) (is_before c.order)) (length c.open_nodes) number k e.nth).1 low

    -- what holds after held before, unless the node gives it
    held : (l : Literal) → (Executes problem c number choice → o.gives (child_of c.open_nodes k) l ≡ false) → literal_holds choice.state l ≡ true → literal_holds c.state l ≡ true
    held l none holds = elim kinds [
      | inl d ↦ subst (λ (s : State). literal_holds s l ≡ true) d.state holds
      | inr e ↦ held_before c.state choice.state (child_of c.open_nodes k) l e.performs (none e) holds
    ]

    module _ (alive : is_dead problem choice.network ≡ false) (first : is_as_at_first problem c.state ≡ true) (ends : may_end problem o (result_of c choice) ≡ true) where
      -- no node after never ends
      unblocked : has_blocked o new ≡ false
      unblocked = not-true _ (and_parts _ _ ends).0

      -- what is needed after holds after
      holds_after : (l : Literal) → Contains (needed o new) l → literal_holds choice.state l ≡ true
      holds_after l at = each_passes (literal_holds choice.state) (needed o new) l (and_parts _ _ (and_parts _ _ ends).1).0 at

      -- so does what the goal needs
      goal_after : (l : Literal) → Contains (needed_goal o problem.goal new) l → literal_holds choice.state l ≡ true
      goal_after l at = each_passes (literal_holds choice.state) (needed_goal o problem.goal new) l (and_parts _ _ (and_parts _ _ ends).1).1 at

      -- the task is within the instance
      within : (d : Decomposes problem c number choice) → IsWithin o d.name choice.network
      within d = elim (right.instances d.name number choice.network d.method alive) [
        | inl blocked ↦ absurd (both_ways _ (inner_ends unblocked) blocked)
        | inr is ↦ is
      ]

      -- what the new nodes give the old one gives
      gives : Gives
      gives l x there given = elim kinds [
        | inl d ↦ ap (λ y. o.gives y l) d.is_task ∙ (within d).gives l x there given
        | inr e ↦ absurd (contains_none x (subst (λ (n : Network). Contains n.children x) e.network there))
      ]

      -- the node ends
      node_ends : o.is_blocked (child_of c.open_nodes k) ≡ false
      node_ends = elim kinds [
        | inl d ↦ ap o.is_blocked d.is_task ∙ (within d).ends
        | inr e ↦ performed_ends c.state choice.state (child_of c.open_nodes k) first e.performs
      ]

      -- so does each other
      each_ends : (i : ℕ) → i < length c.open_nodes → o.is_blocked (child_of c.open_nodes i) ≡ false
      each_ends i low = elim (cases_eq i k) [
        | inl same ↦ ap (λ j. o.is_blocked (child_of c.open_nodes j)) same ∙ node_ends
        | inr other ↦ (let s = stays i low other in
            sym (ap o.is_blocked (s.apart.element ∙ ap (child_of c.open_nodes) s.from_it))
            ∙ none_passes o.is_blocked new.children (child_of new.children s.place) unblocked (Contains-get_or new.children s.place (precondition []) s.within))
      ]

      -- what the node itself needs holds
      own_holds : (l : Literal) → IsNeededAt o old l k → literal_holds c.state l ≡ true
      own_holds l needs = elim kinds [
        | inl d ↦
            (let inside = needed_from o choice.network l ((within d).wants l (subst (λ x. Contains (o.wants x) l) d.is_task needs.wants)) in
            subst (λ (s : State). literal_holds s l ≡ true) d.state (holds_after l (needs_within gives l needs inside.0 inside.1)))
        | inr e ↦ wanted_holds c.state choice.state (child_of c.open_nodes k) l e.performs needs.wants
      ]

      -- so does what each other node needs
      node_holds : (l : Literal) (i : ℕ) → IsNeededAt o old l i → literal_holds c.state l ≡ true
      node_holds l i needs = elim (cases_eq i k) [
        | inl same ↦ own_holds l (subst (IsNeededAt o old l) same needs)
        | inr other ↦ held l (λ e. needs.ungiven k here other (free e i needs.within)) (holds_after l (needs_stays gives l i needs other))
      ]

      -- what the goal needs before it needs after
      goal_stays : (l : Literal) → Contains problem.goal l → list_any (λ x. o.gives x l) c.open_nodes ≡ false → Contains (needed_goal o problem.goal new) l
      goal_stays l there none =
          kept (λ m. not (list_any (λ x. o.gives x m) new.children)) problem.goal l there
          (not_from_false _ (none_from (λ x. o.gives x l) new.children (λ x at. (
          let p = at_from_Contains new.children x at in
          sym (ap (λ y. o.gives y l) (p.2 (precondition [])))
          ∙ gives_none gives l p.0 p.1 (λ inside. none_passes (λ x. o.gives x l) c.open_nodes (child_of c.open_nodes (from p.0)) none (Contains-get_or c.open_nodes (from p.0) (precondition []) inside))))))

      -- and it holds
      goal_holds : (l : Literal) → Contains (needed_goal o problem.goal old) l → literal_holds c.state l ≡ true
      goal_holds l at =
          let parts = filtered (λ m. not (list_any (λ x. o.gives x m) c.open_nodes)) problem.goal l at in
          let none = not-true _ parts.1 in
          held l (λ e. none_passes (λ x. o.gives x l) c.open_nodes (child_of c.open_nodes k) none (Contains-get_or c.open_nodes k (precondition []) here)) (goal_after l (goal_stays l parts.0 none))

      -- so the configuration before may end
      ended : may_end problem o c ≡ true
      ended =
          let nodes : has_blocked o old ≡ false = none_from o.is_blocked c.open_nodes (λ x at. (
          let p = at_from_Contains c.open_nodes x at in sym (ap o.is_blocked (p.2 (precondition []))) ∙ each_ends p.0 p.1)) in
          let needs : holds c.state (needed o old) ≡ true = all_from (literal_holds c.state) (needed o old) (λ l at. (let p = needed_from o old l at in node_holds l p.0 p.1)) in
          let goal : holds c.state (needed_goal o problem.goal old) ≡ true = all_from (literal_holds c.state) (needed_goal o problem.goal old) goal_holds in
          and_from _ _ (not_from_false _ nodes) (and_from _ _ needs goal)

  -- what is done may end
  done : (c : Config) → IsDone problem c → may_end problem o c ≡ true
  done c (none, goal) =
      subst (λ (xs : List Child). may_end problem o (record { state = c.state; open_nodes = xs; order = c.order }) ≡ true) (sym none)
      (all_from (literal_holds c.state) (filter (λ l. true) problem.goal) (λ l at. each_passes (literal_holds c.state) problem.goal l goal (filtered (λ m. true) problem.goal l at).0))

-- the law
pub needs_stay : NeedsStay
needs_stay problem o grounded right = record {
  step = λ c d number is first ends. (
      let made = live_choice problem c d number is in
      ended problem grounded o right c number made.0 (chosen problem c number made.0 made.1) made.2 first
      (subst (λ x. may_end problem o x ≡ true) (sym made.3) ends));
  done = done problem grounded o right;
}
