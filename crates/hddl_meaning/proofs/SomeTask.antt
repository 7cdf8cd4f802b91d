-- A pair of trees has a task.
use Rattle.std.proofs.Common.{◌≡◌, ℕ, zero, suc, ◌+◌, ◌-◌, ◌<◌, ◌≤◌, ◌⊎◌, ◌↔◌, inl, inr, Bool, true, false, cond, List, [], ◌∷◌, ◌++◌, length, map, get_or, slice_get, Option, Some, None, sym, refl, ap, ◌∙◌, subst, arith, nat_eq, ◌&&◌}
use Rattle.std.specs.List.{AllByRecursion, AllZip, Contains, filter, flat_map, list_any, position, range_with_len}
use Rattle.std.specs.List.Sorted.{IsStrictlySortedBy}
use Rattle.std.specs.Ordering.{nat_cmp}
use Rattle.std.specs.declared.cmp.Ordering.TheVariants.{Less, Equal, Greater}
use Rattle.std.proofs.lemmas.Bool.{both_ways, cases_order, eq-eqb, eqb-true, lt-ltb}
use Rattle.std.proofs.lemmas.List.{get_or-map}
use Rattle.std.proofs.lemmas.List.Elements.{Contains-append_cases}
use Rattle.std.proofs.lemmas.List.Folds.{list_any_at}
use Rattle.std.proofs.lemmas.List.FromFn.{get_or-range_with_len, length-range_with_len}
use Rattle.std.proofs.lemmas.List.Quantifiers.{position-Some}
use Rattle.std.proofs.lemmas.Map.Views.{any-filter_same, Contains-from_any, list_any-from_Contains}
use Rattle.std.proofs.lemmas.Cmp.{nat_eq_equiv}
use Rattle.std.proofs.lemmas.Option.{get_or_from_slice_get, slice_get_within}
use Rattle.htn_model.specs.Problem.{Order, is_before}
use Rattle.htn_model.specs.Machine.{table}
use Rattle.htn_model.specs.State.{set_of}
use Rattle.htn_model.specs.Schema as model
use Rattle.htn_model.specs.Task.{MethodSchema, ObjectType, Task, named_types}
use Rattle.htn_model.specs.Instances.{ground_atom}
use Rattle.htn_model.proofs.Splices.{table_past_left, table_past_right, table_square, table_within}
use Rattle.htn_order.specs.Closure as closure
use Rattle.htn_order.specs.Closure.{Precedes, successors}
use Rattle.hddl_words.specs.declared.network.NetworkText.{NetworkText}
use Rattle.hddl_words.specs.declared.network.OrderingText.{OrderingText}
use Rattle.hddl_words.specs.declared.network.SubtaskText.{SubtaskText}
use Rattle.hddl_words.specs.declared.domain.MethodText.{MethodText}
use Rattle.hddl_words.specs.declared.domain.DomainText.{DomainText}
use Rattle.hddl_words.specs.declared.problem.ProblemText.{ProblemText}
use Rattle.hddl_words.specs.Names.{Name}
use Rattle.hddl_meaning.specs.Mentions.{IsIn, Text, Typed, folded}
use Rattle.hddl_meaning.specs.Names.{is_same_text, object_declarations, object_names, type_names}
use Rattle.hddl_meaning.specs.Types as leads
use Rattle.hddl_meaning.specs.Types.{HasType, IsBelow, Leads, parent_pairs, text_or_object}
use Rattle.hddl_meaning.specs.Networks.{IsOrderOf, is_text, labelled, order_pairs, pair_of, written_pairs}
use Rattle.hddl_meaning.specs.Building.{IsMethodOf, IsNetworkOf, Vocabulary, action_of, atom_of, compound_of, equality_of, formulas_of, predicate_of, subtask_of, types_of, variables_of, vocabulary_of}
use Rattle.hddl_meaning.specs.Agreement.{TasksExist}
use Rattle.hddl_meaning.proofs.Listed.{at_head, at_tail, in_cases, in_nothing, texts_decide}

-- ## What is decided

-- what was decided, as a test
abbrev is_so : {P : Type 0} → P ⊎ (P → ⊥) → Bool
is_so (inl h) = true
is_so (inr none) = false

-- the test holds exactly where what was decided does
so : {P : Type 0} (x : P ⊎ (P → ⊥)) → (is_so x ≡ true) ↔ P
so (inl h) = (λ e. h, λ g. refl)
so (inr none) = (λ e. absurd cc, λ g. absurd (none g))

-- where two things can be decided, so can both together
both : {P Q : Type 0} → P ⊎ (P → ⊥) → Q ⊎ (Q → ⊥) → (P × Q) ⊎ ((P × Q) → ⊥)
both (inl p) (inl q) = inl (p, q)
both (inl p) (inr none) = inr (λ h. none h.1)
both (inr none) q = inr (λ h. none h.0)

-- where two things can be decided, so can either
either : {P Q : Type 0} → P ⊎ (P → ⊥) → Q ⊎ (Q → ⊥) → (P ⊎ Q) ⊎ ((P ⊎ Q) → ⊥)
either (inl p) q = inl (inl p)
either (inr none) (inl q) = inl (inr q)
either (inr none) (inr never) = inr (λ h. elim h [ inl p ↦ none p | inr q ↦ never q ])

-- something holds of one of a list
abbrev HasSome : {X : Type 0} → (X → Type 0) → List X → Type 0
HasSome {X = X} P xs = (x : X) × IsIn x xs × P x

-- whether something holds of one of a list can be decided if it can of each
some : {X : Type 0} (P : X → Type 0) → ((x : X) → P x ⊎ (P x → ⊥)) → (xs : List X) → HasSome P xs ⊎ (HasSome P xs → ⊥)
some P decided [] = inr (λ h. in_nothing h.0 h.1)
some P decided (x ∷ xs) = by (decided x) (some P decided xs)
  where
    by : P x ⊎ (P x → ⊥) → HasSome P xs ⊎ (HasSome P xs → ⊥) → HasSome P (x ∷ xs) ⊎ (HasSome P (x ∷ xs) → ⊥)
    by (inl h) later = inl (x, at_head x xs, h)
    by (inr none) (inl h) = inl (h.0, at_tail x h.0 xs h.1, h.2)
    by (inr none) (inr no_more) = inr (λ h. elim (in_cases x h.0 xs h.1) [ inl e ↦ none (subst P (sym e) h.2) | inr later ↦ no_more (h.0, later, h.2) ])

-- whether two texts are the same can be decided
same_text : (t u : Text) → (t ≡ u) ⊎ (t ≡ u → ⊥)
same_text t u = by (is_same_text t u) refl
  where
    by : (b : Bool) → is_same_text t u ≡ b → (t ≡ u) ⊎ (t ≡ u → ⊥)
    by true e = inl ((texts_decide t u).0 e)
    by false e = inr (λ h. both_ways (is_same_text t u) e ((texts_decide t u).1 h))

-- whether two numbers are the same can be decided
same_number : (a b : ℕ) → (a ≡ b) ⊎ (a ≡ b → ⊥)
same_number a b = by (cases_order a b)
  where
    by : (a ≡ b) ⊎ ((a < b) ⊎ (b < a)) → (a ≡ b) ⊎ (a ≡ b → ⊥)
    by (inl e) = inl e
    by (inr (inl lt)) = inr (λ e. omega arith)
    by (inr (inr lt)) = inr (λ e. omega arith)

-- ## Where pairs lead

-- pairs lead from a value to another
data Goes (X : Type 0) (pairs : List (X × X)) : X → X → Type 0 where
  Once : (t u : X) → Contains pairs (t, u) → Goes X pairs t u
  More : (t u v : X) → Contains pairs (t, u) → Goes X pairs u v → Goes X pairs t v

module _ (X : Type 0) where
  -- pairs lead from a value to another, or it is that
  abbrev Arrives : List (X × X) → X → X → Type 0
  Arrives ps x y = (x ≡ y) ⊎ Goes X ps x y

  -- no pairs lead anywhere
  nowhere : (t u : X) → Goes X [] t u → ⊥
  nowhere t u (Once x y h) = in_nothing {X = X × X} (x, y) h
  nowhere t u (More x y z h more) = in_nothing {X = X × X} (x, y) h

  -- a way is one with a pair more
  weaken : (p : X × X) (ps : List (X × X)) (t u : X) → Goes X ps t u → Goes X (p ∷ ps) t u
  weaken p ps t u (Once x y h) = Once x y (at_tail p (x, y) ps h)
  weaken p ps t u (More x y z h more) = More x y z (at_tail p (x, y) ps h) (weaken p ps y z more)

  -- a way and another from its end are one way
  further : (ps : List (X × X)) (a b c : X) → Goes X ps a b → Goes X ps b c → Goes X ps a c
  further ps a b c (Once x y h) on = More x y c h on
  further ps a b c (More x y z h more) on = More x y c h (further ps y z c more on)

  -- a pair and then a way from its second arrive there
  step_first : (ps : List (X × X)) (t m a : X) → Contains ps (t, m) → Arrives ps m a → Arrives ps t a
  step_first ps t m a h (inl e) = inr (Once t a (subst (λ x. Contains ps (t, x)) e h))
  step_first ps t m a h (inr g) = inr (More t m a h g)

  -- without the first pair, or to where it begins and on from where it ends
  abbrev Split : X × X → List (X × X) → X → X → Type 0
  Split p ps t u = Goes X ps t u ⊎ (Arrives ps t p.0 × Arrives ps p.1 u)

  -- a way with a pair more is one without it, or goes through it
  split : (p : X × X) (ps : List (X × X)) (t u : X) → Goes X (p ∷ ps) t u → Split p ps t u
  split p ps t u (Once x y h) = by (in_cases p (x, y) ps h)
    where
      by : (p ≡ (x, y)) ⊎ Contains ps (x, y) → Split p ps x y
      by (inl e) = inr (inl (sym (ap (λ (q : X × X). q.0) e)), inl (ap (λ (q : X × X). q.1) e))
      by (inr k) = inl (Once x y k)
  split p ps t u (More x y z h more) = by (in_cases p (x, y) ps h) (split p ps y z more)
    where
      by : (p ≡ (x, y)) ⊎ Contains ps (x, y) → Split p ps y z → Split p ps x z
      by (inr k) (inl g) = inl (More x y z k g)
      by (inr k) (inr r) = inr (step_first ps x y p.0 k r.0, r.1)
      by (inl e) (inl g) = inr (inl (sym (ap (λ (q : X × X). q.0) e)), inr (subst (λ w. Goes X ps w z) (sym (ap (λ (q : X × X). q.1) e)) g))
      by (inl e) (inr r) = inr (inl (sym (ap (λ (q : X × X). q.0) e)), r.1)

  -- what arrives at a pair's first, and on from its second, goes through it
  join : (p : X × X) (ps : List (X × X)) (t u : X) → Arrives ps t p.0 → Arrives ps p.1 u → Goes X (p ∷ ps) t u
  join p ps t u a b = before a (after b)
    where
      after : Arrives ps p.1 u → Goes X (p ∷ ps) p.0 u
      after (inl e) = Once p.0 u (subst (λ w. Contains (p ∷ ps) (p.0, w)) e (at_head p ps))
      after (inr g) = More p.0 p.1 u (at_head p ps) (weaken p ps p.1 u g)

      before : Arrives ps t p.0 → Goes X (p ∷ ps) p.0 u → Goes X (p ∷ ps) t u
      before (inl e) on = subst (λ w. Goes X (p ∷ ps) w u) (sym e) on
      before (inr g) on = further (p ∷ ps) t p.0 u (weaken p ps t p.0 g) on

  -- whether pairs lead somewhere can be decided
  goes_or_not : ((x y : X) → (x ≡ y) ⊎ (x ≡ y → ⊥)) → (ps : List (X × X)) (t u : X) → Goes X ps t u ⊎ (Goes X ps t u → ⊥)
  goes_or_not same [] t u = inr (nowhere t u)
  goes_or_not same (p ∷ ps) t u =
      by (goes_or_not same ps t u) (either (same t p.0) (goes_or_not same ps t p.0)) (either (same p.1 u) (goes_or_not same ps p.1 u))
    where
      by : Goes X ps t u ⊎ (Goes X ps t u → ⊥) → Arrives ps t p.0 ⊎ (Arrives ps t p.0 → ⊥) → Arrives ps p.1 u ⊎ (Arrives ps p.1 u → ⊥)
          → Goes X (p ∷ ps) t u ⊎ (Goes X (p ∷ ps) t u → ⊥)
      by (inl g) a b = inl (weaken p ps t u g)
      by (inr none) (inl a) (inl b) = inl (join p ps t u a b)
      by (inr none) (inr never) b = inr (λ h. elim (split p ps t u h) [ inl g ↦ none g | inr r ↦ never r.0 ])
      by (inr none) (inl a) (inr never) = inr (λ h. elim (split p ps t u h) [ inl g ↦ none g | inr r ↦ never r.1 ])

-- a way by name is one along the pairs
from_leads : (ps : List (Text × Text)) (t u : Text) → Leads ps t u → Goes Text ps t u
from_leads ps t u (leads.Direct x y h) = Once x y h
from_leads ps t u (leads.Through x y z h more) = More x y z h (from_leads ps y z more)

-- a way along the pairs is one by name
to_leads : (ps : List (Text × Text)) (t u : Text) → Goes Text ps t u → Leads ps t u
to_leads ps t u (Once x y h) = leads.Direct x y h
to_leads ps t u (More x y z h more) = leads.Through x y z h (to_leads ps y z more)

-- a way by number is one along the pairs
from_precedes : (ps : List (ℕ × ℕ)) (a b : ℕ) → Precedes ps a b → Goes ℕ ps a b
from_precedes ps a b (closure.Direct x y h) = Once x y h
from_precedes ps a b (closure.Through x y z h more) = More x y z h (from_precedes ps y z more)

-- a way along the pairs is one by number
to_precedes : (ps : List (ℕ × ℕ)) (a b : ℕ) → Goes ℕ ps a b → Precedes ps a b
to_precedes ps a b (Once x y h) = closure.Direct x y h
to_precedes ps a b (More x y z h more) = closure.Through x y z h (to_precedes ps y z more)

-- ## Orders

-- both numbers of each pair are below n
abbrev AreInside : ℕ → List (ℕ × ℕ) → Type 0
AreInside n ps = (q : ℕ × ℕ) → IsIn q ps → (q.0 < n) × (q.1 < n)

-- a way along pairs below n is below n
goes_inside : (n : ℕ) (ps : List (ℕ × ℕ)) (a b : ℕ) → AreInside n ps → Goes ℕ ps a b → (a < n) × (b < n)
goes_inside n ps a b inside (Once x y h) = inside (x, y) h
goes_inside n ps a b inside (More x y z h more) = ((inside (x, y) h).0, (goes_inside n ps y z inside more).1)

-- joined pairs are below n if both are
join_inside : (n : ℕ) (ps qs : List (ℕ × ℕ)) → AreInside n ps → AreInside n qs → AreInside n (ps ++ qs)
join_inside n ps qs p q r h = elim (Contains-append_cases ps qs r h) [ inl k ↦ p r k | inr k ↦ q r k ]

-- a position with the next
abbrev next : ℕ → ℕ × ℕ
next k = (k, k + 1)

-- two positions
abbrev pair : ℕ → ℕ → ℕ × ℕ
pair a b = (a, b)

-- each position with the next is below n
map_inside : (n m : ℕ) (ks : List ℕ) → m + 1 ≤ n → ((k : ℕ) → IsIn k ks → k < m) → AreInside n (map next ks)
map_inside n m [] fit low q h = absurd (in_nothing q h)
map_inside n m (k ∷ ks) fit low q h = by (in_cases (next k) q (map next ks) h) (map_inside n m ks fit (λ x g. low x (at_tail k x ks g)) q)
  where
    by : (next k ≡ q) ⊎ IsIn q (map next ks) → (IsIn q (map next ks) → (q.0 < n) × (q.1 < n)) → (q.0 < n) × (q.1 < n)
    by (inl e) others =
        let here : k < m = low k (at_head k ks) in
        let first : k ≡ q.0 = ap (λ (r : ℕ × ℕ). r.0) e in
        let second : k + 1 ≡ q.1 = ap (λ (r : ℕ × ℕ). r.1) e in
        (omega arith, omega arith)
    by (inr later) others = others later

-- a number of the range is below its end
in_range : (n k : ℕ) → IsIn k (range_with_len 0 n) → k < n
in_range n k h =
    let lt : h.0 < length (range_with_len 0 n) = h.1 in
    let long : length (range_with_len 0 n) ≡ n = length-range_with_len 0 n in
    let same : get_or (range_with_len 0 n) h.0 k ≡ 0 + h.0 = get_or-range_with_len 0 n h.0 k (omega arith) in
    let is : get_or (range_with_len 0 n) h.0 k ≡ k = h.2 in
    omega arith

-- no pairs are below n
no_pairs : (n : ℕ) → AreInside n []
no_pairs n q h = absurd (in_nothing q h)

-- the pairs of a sequence are below its length
successors_inside : (n : ℕ) → AreInside n (successors n)
successors_inside zero = no_pairs zero
successors_inside (suc n) = map_inside (suc n) (suc n - 1) (range_with_len 0 (suc n - 1)) (omega arith) (in_range (suc n - 1))

-- so they are where there is a sequence only if a test holds
chain_inside : (b : Bool) (n : ℕ) → AreInside n (cond b (successors n) [])
chain_inside true n = successors_inside n
chain_inside false n = no_pairs n

-- a pair that is there only if both numbers are is below n if they are
pair_inside : (n : ℕ) (a b : Option ℕ) → ((k : ℕ) → a ≡ Some k → k < n) → ((k : ℕ) → b ≡ Some k → k < n) → AreInside n (pair_of a b)
pair_inside n (Some a) (Some b) p q r h =
    elim (in_cases (pair a b) r [] h) [
      | inl e ↦ (subst (λ (x : ℕ × ℕ). x.0 < n) e (p a refl), subst (λ (x : ℕ × ℕ). x.1 < n) e (q b refl))
      | inr none ↦ absurd (in_nothing r none)
    ]
pair_inside n (Some a) None p q r h = absurd (in_nothing r h)
pair_inside n None b p q r h = absurd (in_nothing r h)

-- a label's position is that of a subtask
labelled_below : (n : NetworkText) (name : Name) (k : ℕ) → labelled n name ≡ Some k → k < length n.subtasks
labelled_below n name k e = within n.subtasks e
  where
    within : (xs : List SubtaskText) → position (λ (s : SubtaskText). is_text (folded name.text) s.label) xs ≡ Some k → k < length xs
    within [] e = absurd cc
    within (x ∷ xs) e = (position-Some (λ (s : SubtaskText). is_text (folded name.text) s.label) (x ∷ xs) k x e).0

-- the written orderings pair positions of subtasks
each_inside : (n : NetworkText) (os : List OrderingText) → AreInside (length n.subtasks) (flat_map (λ o. pair_of (labelled n o.before) (labelled n o.after)) os)
each_inside n [] = no_pairs (length n.subtasks)
each_inside n (o ∷ os) =
    join_inside (length n.subtasks) (pair_of (labelled n o.before) (labelled n o.after)) (flat_map (λ o. pair_of (labelled n o.before) (labelled n o.after)) os)
    (pair_inside (length n.subtasks) (labelled n o.before) (labelled n o.after) (labelled_below n o.before) (labelled_below n o.after)) (each_inside n os)

-- so do all orderings of a network
order_inside : (n : NetworkText) → AreInside (length n.subtasks) (order_pairs n)
order_inside n =
    join_inside (length n.subtasks) (cond n.is_ordered (successors (length n.subtasks)) []) (written_pairs n) (chain_inside n.is_ordered (length n.subtasks)) (each_inside n n.orderings)

-- whether pairs lead from one number to another, as a test
leads_to : (ps : List (ℕ × ℕ)) → ℕ → ℕ → Bool
leads_to ps a b = is_so (goes_or_not ℕ same_number ps a b)

-- the order of a network, as a table of that test
order_of : NetworkText → Order
order_of n = table (length n.subtasks) (leads_to (order_pairs n))

-- the test holds exactly where the pairs lead there
leads_so : (ps : List (ℕ × ℕ)) (a b : ℕ) → (leads_to ps a b ≡ true) ↔ Goes ℕ ps a b
unfolding leads_to
leads_so ps a b = so (goes_or_not ℕ same_number ps a b)

-- the table is the order of the network
order_is : (n : NetworkText) → IsOrderOf n (order_of n)
unfolding order_of
order_is n = record { square = table_square (length n.subtasks) (leads_to (order_pairs n)); closure = λ a b. (to a b, from a b) }
  where
    to : (a b : ℕ) → is_before (table (length n.subtasks) (leads_to (order_pairs n))) a b ≡ true → Precedes (order_pairs n) a b
    to a b h = by_left (cases_order a (length n.subtasks)) (cases_order b (length n.subtasks))
      where
        past : {P : Type 0} → is_before (table (length n.subtasks) (leads_to (order_pairs n))) a b ≡ false → P
        past e = absurd (both_ways (is_before (table (length n.subtasks) (leads_to (order_pairs n))) a b) e h)

        left : length n.subtasks ≤ a → Precedes (order_pairs n) a b
        left far = past (table_past_left (length n.subtasks) (leads_to (order_pairs n)) a b far)

        right : length n.subtasks ≤ b → Precedes (order_pairs n) a b
        right far = past (table_past_right (length n.subtasks) (leads_to (order_pairs n)) a b far)

        by_left : (a ≡ length n.subtasks) ⊎ ((a < length n.subtasks) ⊎ (length n.subtasks < a)) → (b ≡ length n.subtasks) ⊎ ((b < length n.subtasks) ⊎ (length n.subtasks < b))
            → Precedes (order_pairs n) a b
        by_left (inl e) y = left (omega arith)
        by_left (inr (inr more)) y = left (omega arith)
        by_left (inr (inl less)) (inl e) = right (omega arith)
        by_left (inr (inl less)) (inr (inr more)) = right (omega arith)
        by_left (inr (inl less)) (inr (inl low)) =
            to_precedes (order_pairs n) a b
            ((leads_so (order_pairs n) a b).0 (sym (table_within (length n.subtasks) (leads_to (order_pairs n)) a b less low) ∙ h))

    from : (a b : ℕ) → Precedes (order_pairs n) a b → is_before (table (length n.subtasks) (leads_to (order_pairs n))) a b ≡ true
    from a b h =
        let goes = from_precedes (order_pairs n) a b h in
        let inside = goes_inside (length n.subtasks) (order_pairs n) a b (order_inside n) goes in
        table_within (length n.subtasks) (leads_to (order_pairs n)) a b inside.0 inside.1 ∙ (leads_so (order_pairs n) a b).1 goes

-- ## Types of objects

-- whether a type is below another can be decided
below_or_not : (d : DomainText) (t u : Text) → IsBelow d t u ⊎ (IsBelow d t u → ⊥)
below_or_not d t u = either (same_text t u) (by (goes_or_not Text same_text (parent_pairs d) t u))
  where
    by : Goes Text (parent_pairs d) t u ⊎ (Goes Text (parent_pairs d) t u → ⊥) → Leads (parent_pairs d) t u ⊎ (Leads (parent_pairs d) t u → ⊥)
    by (inl g) = inl (to_leads (parent_pairs d) t u g)
    by (inr none) = inr (λ h. none (from_leads (parent_pairs d) t u h))

module _ (d : DomainText) (p : ProblemText) where
  -- a typed name declares an object with a type
  abbrev Declares : Text → Text → Typed → Type 0
  Declares name type x = (x.mention.text ≡ name) × IsBelow d (text_or_object x.of_type) type

  -- whether an object has a type can be decided
  type_or_not : (name type : Text) → HasType d p name type ⊎ (HasType d p name type → ⊥)
  type_or_not name type =
      by (some (λ x. Declares name type x) (λ x. both (same_text x.mention.text name) (below_or_not d (text_or_object x.of_type) type)) (object_declarations d p))
    where
      by : HasSome (λ x. Declares name type x) (object_declarations d p) ⊎ (HasSome (λ x. Declares name type x) (object_declarations d p) → ⊥)
          → HasType d p name type ⊎ (HasType d p name type → ⊥)
      by (inl h) = inl (h.0, h.1, h.2.0, h.2.1)
      by (inr none) = inr (λ h. none (h.0, h.1, (h.2, h.3)))

  -- whether the object of a number has a type, as a test
  has : Text → ℕ → Bool
  has type o = is_so (type_or_not (get_or (object_names d p) o []) type)

  -- the test holds exactly where the object has the type
  has_so : (type name : Text) (o : ℕ) → get_or (object_names d p) o [] ≡ name → (has type o ≡ true) ↔ HasType d p name type
  unfolding has
  has_so type name o e = subst (λ x. (is_so (type_or_not (get_or (object_names d p) o []) type) ≡ true) ↔ HasType d p x type) e (so (type_or_not (get_or (object_names d p) o []) type))

-- where two tests hold together, the first does
and_left : (a b : Bool) → (a && b) ≡ true → a ≡ true
and_left true b h = refl
and_left false b h = absurd cc

-- where two tests hold together, the second does
and_right : (a b : Bool) → (a && b) ≡ true → b ≡ true
and_right true b h = h
and_right false b h = absurd cc

-- together with what holds, a test is itself
and_true : (a b : Bool) → b ≡ true → (a && b) ≡ a
and_true true b h = h
and_true false b h = refl

-- with the objects of the types of these numbers
module _ (d : DomainText) (p : ProblemText) (listed : List ℕ) where
  -- whether the type of a number is listed, and an object has it
  lists : ℕ → Text → ℕ → Bool
  lists k type o = list_any (nat_eq k) listed && has d p type o

  -- an object is listed exactly where the type is and the object has it
  lists_so : (k : ℕ) (type name : Text) (o : ℕ) → get_or (object_names d p) o [] ≡ name → (lists k type o ≡ true) ↔ (Contains listed k × HasType d p name type)
  unfolding lists
  lists_so k type name o e =
      let is = has_so d p type name o e in (
        λ h. (
          Contains-from_any eqb-true k listed (and_left (list_any (nat_eq k) listed) (has d p type o) h),
          is.0 (and_right (list_any (nat_eq k) listed) (has d p type o) h),
        ),
        λ (among, typed). and_true (list_any (nat_eq k) listed) (has d p type o) (is.1 typed) ∙ list_any-from_Contains nat_eq_equiv k listed among,
      )

  -- the numbers of the objects that a type lists, ascending
  abbrev numbers_of : ℕ → Text → List ℕ
  numbers_of k type = filter (lists k type) (range_with_len 0 (length (object_names d p)))

  -- a type with its objects
  abbrev type_of : ℕ → Text → ObjectType
  type_of k type = record { name = type; objects = numbers_of k type }

  -- the types of these names, numbered from k on
  abbrev types_from : ℕ → List Text → List ObjectType
  types_from k [] = []
  types_from k (name ∷ names) = type_of k name ∷ types_from (suc k) names

  -- they have these names
  named : (k : ℕ) (names : List Text) → map (λ x. x.name) (types_from k names) ≡ names
  named k [] = refl
  named k (name ∷ names) = ap (λ xs. name ∷ xs) (named (suc k) names)

  -- the type at a place has the objects of its number and name
  type_at : (a : ℕ) (names : List Text) (k : ℕ) (type : ObjectType) → slice_get (types_from a names) k ≡ Some type → type ≡ type_of (a + k) type.name
  type_at a [] k type h = absurd cc
  type_at a (name ∷ names) zero type h =
      let same : type_of a name ≡ type = cc in
      let first : a ≡ a + 0 = omega arith in
      sym same ∙ ap (λ (x : ObjectType). type_of a x.name) same ∙ ap (λ n. type_of n type.name) first
  type_at a (name ∷ names) (suc k) type h =
      let next : suc a + k ≡ a + suc k = omega arith in
      type_at (suc a) names k type h ∙ ap (λ n. type_of n type.name) next

  -- a smaller number compares as less
  less : (x y : ℕ) → x < y → nat_cmp x y ≡ Less
  less x y lt = ap (λ b. cond b Less (cond (nat_eq x y) Equal Greater)) (lt-ltb x y lt)

  -- a smaller number is below all that are filtered from a range
  above : (test : ℕ → Bool) (x a n : ℕ) → x < a → AllByRecursion (λ y. nat_cmp x y ≡ Less) (filter test (range_with_len a n))
  above test x a zero lt = tt
  above test x a (suc n) lt = by (test a) (above test x (a + 1) n (omega arith))
    where
      by : (b : Bool) → AllByRecursion (λ y. nat_cmp x y ≡ Less) (filter test (range_with_len (a + 1) n))
          → AllByRecursion (λ y. nat_cmp x y ≡ Less) (cond b (a ∷ filter test (range_with_len (a + 1) n)) (filter test (range_with_len (a + 1) n)))
      by true all = (less x a lt, all)
      by false all = all

  -- what is filtered from a range ascends
  ascends : (test : ℕ → Bool) (a n : ℕ) → IsStrictlySortedBy nat_cmp (filter test (range_with_len a n))
  unfolding IsStrictlySortedBy
  ascends test a zero = tt
  ascends test a (suc n) = by (test a) (above test a (a + 1) n (omega arith)) (ascends test (a + 1) n)
    where
      by : (b : Bool) → AllByRecursion (λ y. nat_cmp a y ≡ Less) (filter test (range_with_len (a + 1) n)) → IsStrictlySortedBy nat_cmp (filter test (range_with_len (a + 1) n))
          → IsStrictlySortedBy nat_cmp (cond b (a ∷ filter test (range_with_len (a + 1) n)) (filter test (range_with_len (a + 1) n)))
      by true all rest = (all, rest)
      by false all rest = rest

  -- a number below the end is in the range
  any_range : (n o : ℕ) → o < n → list_any (nat_eq o) (range_with_len 0 n) ≡ true
  any_range n o lt =
      let long : length (range_with_len 0 n) ≡ n = length-range_with_len 0 n in
      let at : get_or (range_with_len 0 n) o 0 ≡ 0 + o = get_or-range_with_len 0 n o 0 lt in
      list_any_at (nat_eq o) (range_with_len 0 n) o 0 (omega arith) (eq-eqb o (get_or (range_with_len 0 n) o 0) (omega arith))

  -- an object is among the type's numbers exactly where it is listed and is one
  any_numbers : (k : ℕ) (type : Text) (o : ℕ) → list_any (nat_eq o) (numbers_of k type) ≡ (lists k type o && list_any (nat_eq o) (range_with_len 0 (length (object_names d p))))
  any_numbers k type o =
      any-filter_same (nat_eq o) (lists k type) (lists k type o) (λ n e. let same : o ≡ n = eqb-true o n e in ap (lists k type) (sym same)) (range_with_len 0 (length (object_names d p)))

  -- what a type lists is an object
  numbers_within : (k : ℕ) (type : Text) (o : ℕ) → list_any (nat_eq o) (numbers_of k type) ≡ true → o < length (object_names d p)
  numbers_within k type o h =
      in_range (length (object_names d p)) o
      (Contains-from_any eqb-true o (range_with_len 0 (length (object_names d p)))
      (and_right (lists k type o) (list_any (nat_eq o) (range_with_len 0 (length (object_names d p)))) (sym (any_numbers k type o) ∙ h)))

  -- so it is for each of the types
  types_within : (a : ℕ) (names : List Text) (k o : ℕ) → list_any (nat_eq o) (get_or (map (λ x. x.objects) (types_from a names)) k []) ≡ true → o < length (object_names d p)
  types_within a [] k o h = absurd cc
  types_within a (name ∷ names) zero o h = numbers_within a name o h
  types_within a (name ∷ names) (suc k) o h = types_within (suc a) names k o h

  -- the objects at a place are those of the type there
  objects_at : (names : List Text) (k : ℕ) (type : ObjectType) → slice_get (types_from 0 names) k ≡ Some type
      → get_or (map (λ x. x.objects) (types_from 0 names)) k [] ≡ numbers_of k type.name
  objects_at names k type h =
      let same : 0 + k ≡ k = omega arith in
      get_or-map (λ x. x.objects) (types_from 0 names) k type [] (slice_get_within (types_from 0 names) k type h)
      ∙ ap (λ (x : ObjectType). x.objects) (get_or_from_slice_get (types_from 0 names) k type type h ∙ type_at 0 names k type h ∙ ap (λ n. type_of n type.name) same)

  -- an object is at a place exactly where the type there is listed and the object has it
  member : (names : List Text) (k o : ℕ) (type : ObjectType) (name : Text) → slice_get (types_from 0 names) k ≡ Some type → slice_get (object_names d p) o ≡ Some name
      → list_any (nat_eq o) (get_or (map (λ x. x.objects) (types_from 0 names)) k []) ≡ lists k type.name o
  member names k o type name h g =
      let within : o < length (object_names d p) = slice_get_within (object_names d p) o name g in
      ap (list_any (nat_eq o)) (objects_at names k type h)
      ∙ any_numbers k type.name o
      ∙ and_true (lists k type.name o) (list_any (nat_eq o) (range_with_len 0 (length (object_names d p)))) (any_range (length (object_names d p)) o within)

-- ## The task

-- a network as a schema
abbrev network_of : Vocabulary → List Text → NetworkText → model.NetworkSchema
network_of v variables n = record { subtasks = map (λ s. subtask_of v variables s.task) n.subtasks; order = order_of n }

-- it is the schema of the network
network_is : (v : Vocabulary) (variables : List Text) (n : NetworkText) → IsNetworkOf v variables n (network_of v variables n)
network_is v variables n = record { subtasks = refl; order = order_is n }

-- a method as a schema
abbrev method_of : Vocabulary → MethodText → MethodSchema
method_of v x = record {
  name = folded x.name.text;
  parameters = types_of v x.parameters;
  task = subtask_of v (variables_of x.parameters) x.task;
  precondition = formulas_of v (variables_of x.parameters) x.precondition;
  constraints = map (equality_of v (variables_of x.parameters)) x.network.constraints;
  network = network_of v (variables_of x.parameters) x.network;
}

-- it is the schema of the method
method_is : (v : Vocabulary) (x : MethodText) → IsMethodOf v x (method_of v x)
method_is v x = record {
  name = refl;
  parameters = refl;
  task = refl;
  precondition = refl;
  constraints = refl;
  network = network_is v (variables_of x.parameters) x.network;
}

-- so are those of all methods
methods_are : (v : Vocabulary) (xs : List MethodText) → AllZip (IsMethodOf v) xs (map (method_of v) xs)
methods_are v [] = tt
methods_are v (x ∷ xs) = (method_is v x, methods_are v xs)

-- with these types
abbrev task_with : DomainText → ProblemText → List ObjectType → Task
task_with d p types =
    let v = vocabulary_of d p in
    record {
      objects = object_names d p;
      types = types;
      predicates = map (predicate_of v) d.predicates;
      tasks = map (compound_of v) d.tasks;
      methods = map (method_of v) d.methods;
      actions = map (action_of v) d.actions;
      initial_network = record {
        parameters = types_of v p.htn.parameters;
        constraints = map (equality_of v (variables_of p.htn.parameters)) p.htn.network.constraints;
        network = network_of v (variables_of p.htn.parameters) p.htn.network;
      };
      initial_atoms = set_of (map (λ a. ground_atom [] (atom_of v [] a)) p.init);
      goal = formulas_of v [] p.goal;
    }

-- the numbers of the types that it names
abbrev named_in : DomainText → ProblemText → List ℕ
named_in d p = named_types (task_with d p [])

-- the task of a pair
abbrev task_of : DomainText → ProblemText → Task
task_of d p = task_with d p (types_from d p (named_in d p) 0 (type_names d))

-- each pair has a task
pub tasks_exist : TasksExist
tasks_exist d p = (
  task_of d p,
  record {
    objects = refl;
    types = named d p (named_in d p) 0 (type_names d);
    ascending = λ k type h.
        subst (λ (x : ObjectType). IsStrictlySortedBy nat_cmp x.objects) (sym (type_at d p (named_in d p) 0 (type_names d) k type h))
        (ascends d p (named_in d p) (lists d p (named_in d p) (0 + k) type.name) 0 (length (object_names d p)));
    members = λ k o type name h g.
        let same = member d p (named_in d p) (type_names d) k o type name h g in
        let is = lists_so d p (named_in d p) k type.name name o (get_or_from_slice_get (object_names d p) o name [] g) in
        (λ e. is.0 (sym same ∙ e), λ e. same ∙ is.1 e);
    within = λ k o h. types_within d p (named_in d p) 0 (type_names d) k o h;
    predicates = refl;
    tasks = refl;
    methods = methods_are (vocabulary_of d p) d.methods;
    actions = refl;
    parameters = refl;
    constraints = refl;
    network = network_is (vocabulary_of d p) (variables_of p.htn.parameters) p.htn.network;
    initial_atoms = refl;
    goal = refl;
  },
)
