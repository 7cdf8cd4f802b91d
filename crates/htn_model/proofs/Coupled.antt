-- Slots that keep the inherited order everywhere have spans from node to node.
use Rattle.std.proofs.Common.{◌≡◌, ℕ, suc, ◌+◌, ◌≤◌, List, [], ◌∷◌, Option, Some, Bool, true, false, cond, eqb, inl, inr, sym, refl, ap, ◌∙◌, subst, arith}
use Rattle.std.proofs.lemmas.Bool.{both_ways, cases_eq, eq-eqb, ne_eqb}
use Rattle.htn_model.specs.State.{State}
use Rattle.htn_model.specs.Literal.{Literal, holds}
use Rattle.htn_model.specs.Problem.{GroundTask, Problem, Order, IsClosed, IsGrounded, is_before}
use Rattle.htn_model.specs.Tree.{Node, leaf, step, compound, Nodes, no_nodes, node, Place, child_at, children_in, node_below, order_of, order_in, before}
use Rattle.htn_model.proofs.Orders.{order_of_closed}
use Rattle.htn_model.specs.Fits.{AreSpans}
use Rattle.htn_model.specs.Placement.{Slots, IsPrimitive, duration, KeepsOrder, Sits, AllSit}
use Rattle.htn_model.proofs.Tops.{EndsBy, IsLastEnd, last_ends, greatest, IsGreatest, shifted}

-- one of two that are both no more than a third is no more
cond_up_to : (b : Bool) (x y z : ℕ) → (b ≡ true → x ≤ z) → y ≤ z → cond b x y ≤ z
cond_up_to true x y z h g = h refl
cond_up_to false x y z h g = g

-- where the test holds, the first is no more
cond_from : (b : Bool) (x y z : ℕ) → b ≡ true → cond b x y ≤ z → x ≤ z
cond_from true x y z h g = g
cond_from false x y z h g = absurd cc

-- the second is no more, whether it is taken or equals the first
cond_other : (b : Bool) (x y z : ℕ) → (b ≡ true → y ≡ x) → cond b x y ≤ z → y ≤ z
cond_other true x y z h g = subst (λ k. k ≤ z) (sym (h refl)) g
cond_other false x y z h g = g

-- no leaf or step below a node comes before a gap
abbrev pub StartsFrom : Slots → Option Node → ℕ → Type 0
StartsFrom slots m x = (p : Place) → IsPrimitive (node_below m p) → x ≤ slots p

module _ (problem : Problem) (order : Order) (closed : IsClosed order) (nodes : Nodes) (slots : Slots) (g h : ℕ) (forward : g ≤ h)
    (starts : (i : ℕ) → StartsFrom (λ p. slots (i ∷ p)) (child_at nodes i) g) (ends : (i : ℕ) → EndsBy (λ p. slots (i ∷ p)) (child_at nodes i) h)
    (keeps : KeepsOrder problem order nodes slots) where
  -- where the last leaf or step below each child ends
  abbrev tops : ℕ → ℕ
  tops = (last_ends g slots 0 nodes).tops

  -- that is where it ends
  top_is : (i : ℕ) → IsLastEnd g (λ p. slots (i ∷ p)) (child_at nodes i) (tops i)
  top_is i = shifted g slots (child_at nodes i) (0 + i) i (tops i) (omega arith) ((last_ends g slots 0 nodes).each i)

  -- the ends of what is before a position
  abbrev earlier : ℕ → ℕ → ℕ
  earlier a b = cond (is_before order b a) (tops b) g

  -- and those of the position itself
  abbrev own : ℕ → ℕ → ℕ
  own a b = cond (eqb b a) (tops b) (earlier a b)

  -- past the children none ends before
  earlier_small : (a b : ℕ) → (last_ends g slots 0 nodes).count ≤ b → earlier a b ≤ g
  earlier_small a b past = cond_up_to (is_before order b a) (tops b) g g (λ e. (last_ends g slots 0 nodes).small b past) (omega arith)

  -- past the children none ends
  own_small : (a b : ℕ) → (last_ends g slots 0 nodes).count ≤ b → own a b ≤ g
  own_small a b past = cond_up_to (eqb b a) (tops b) (earlier a b) g (λ e. (last_ends g slots 0 nodes).small b past) (earlier_small a b past)

  -- there is a greatest of the ends before a child
  starting : (a : ℕ) → (top : ℕ) × IsGreatest g (earlier a) top
  starting a = greatest g (earlier a) (last_ends g slots 0 nodes).count (earlier_small a)

  -- there is a greatest of these and its own
  finishing : (a : ℕ) → (top : ℕ) × IsGreatest g (own a) top
  finishing a = greatest g (own a) (last_ends g slots 0 nodes).count (own_small a)

  -- where a child may start: the greatest end before it
  pub start : ℕ → ℕ
  start a = (starting a).0

  -- where it has finished: the greatest of these and its own
  pub finish : ℕ → ℕ
  finish a = (finishing a).0

  -- the start is that greatest
  start_is : (a : ℕ) → IsGreatest g (earlier a) (start a)
  unfolding start
  start_is a = (starting a).1

  -- the finish is that greatest
  finish_is : (a : ℕ) → IsGreatest g (own a) (finish a)
  unfolding finish
  finish_is a = (finishing a).1

  -- what comes before a child ends by its start
  earlier_before : (a b : ℕ) → is_before order b a ≡ true → tops b ≤ start a
  earlier_before a b precedes = cond_from (is_before order b a) (tops b) g (start a) precedes ((start_is a).upper b)

  -- a child ends by its finish
  own_itself : (a : ℕ) → tops a ≤ finish a
  own_itself a = cond_from (eqb a a) (tops a) (earlier a a) (finish a) (eq-eqb a a refl) ((finish_is a).upper a)

  -- what comes before a child ends by its finish
  own_before : (a b : ℕ) → is_before order b a ≡ true → tops b ≤ finish a
  own_before a b precedes = elim (cases_eq b a) [
    | inl same ↦ cond_from (eqb b a) (tops b) (earlier a b) (finish a) (eq-eqb b a same) ((finish_is a).upper b)
    | inr other ↦ cond_from (is_before order b a) (tops b) g (finish a) precedes
        (cond_other (eqb b a) (tops b) (earlier a b) (finish a) (λ e. absurd (both_ways (eqb b a) (ne_eqb b a other) e)) ((finish_is a).upper b))
  ]

  -- a child before another has finished where that starts
  ordered : (a b : ℕ) → is_before order a b ≡ true → finish a ≤ start b
  ordered a b precedes = (finish_is a).least (start b) (start_is b).low (λ c. elim (cases_eq c a) [
    | inl same ↦ cond_up_to (eqb c a) (tops c) (earlier a c) (start b) (λ e. subst (λ k. tops k ≤ start b) (sym same) (earlier_before b a precedes))
        (cond_up_to (is_before order c a) (tops c) g (start b) (λ e. earlier_before b c (closed.transitive c a b e precedes)) (start_is b).low)
    | inr other ↦ cond_up_to (eqb c a) (tops c) (earlier a c) (start b) (λ e. absurd (both_ways (eqb c a) (ne_eqb c a other) e))
        (cond_up_to (is_before order c a) (tops c) g (start b) (λ e. earlier_before b c (closed.transitive c a b e precedes)) (start_is b).low)
  ])

  -- each child ends by the last gap
  top_to : (a : ℕ) → tops a ≤ h
  top_to a = (top_is a).least h forward (ends a)

  -- starts and finishes are spans
  pub spans : AreSpans order start finish g h
  spans = record {
    from = λ a. (start_is a).low;
    to = λ a. (finish_is a).least h forward (λ b. cond_up_to (eqb b a) (tops b) (earlier a b) h (λ e. top_to b)
        (cond_up_to (is_before order b a) (tops b) g h (λ e. top_to b) forward));
    forward = λ a. (start_is a).least (finish a) (finish_is a).low
        (λ b. cond_up_to (is_before order b a) (tops b) g (finish a) (λ e. own_before a b e) (finish_is a).low);
    ordered = ordered;
  }

  -- what is below a child comes before what is below one that is after it
  between : (a b : ℕ) (p q : Place) → is_before order b a ≡ true → before problem order nodes (b ∷ q) (a ∷ p) ≡ true
  between a b p q precedes = elim (cases_eq b a) [
    | inl same ↦ absurd (both_ways (is_before order b a) (subst (λ k. is_before order b k ≡ false) same (closed.irreflexive b)) precedes)
    | inr other ↦ rw (ne_eqb b a other) precedes
  ]

  -- no leaf or step below a child comes before its start
  pub child_starts : (a : ℕ) → StartsFrom (λ p. slots (a ∷ p)) (child_at nodes a) (start a)
  child_starts a p primitive = (start_is a).least (slots (a ∷ p)) (starts a p primitive)
      (λ b. cond_up_to (is_before order b a) (tops b) g (slots (a ∷ p))
      (λ e. (top_is b).least (slots (a ∷ p)) (starts a p primitive) (λ q there. keeps (b ∷ q) (a ∷ p) there primitive (between a b p q e)))
      (starts a p primitive))

  -- each leaf and step below a child ends by its finish
  pub child_ends : (a : ℕ) → EndsBy (λ p. slots (a ∷ p)) (child_at nodes a) (finish a)
  child_ends a p primitive = let e = (top_is a).upper p primitive in let o = own_itself a in omega arith

-- ## From node to node

module _ (problem : Problem) (grounded : IsGrounded problem) (states : ℕ → State) where
  -- what the leaves and steps below a node keep
  pub record Keeps (slots : Slots) (n : Node) (g h : ℕ) : Type 0 where
    pub forward : g ≤ h
    pub starts : StartsFrom slots (Some n) g
    pub ends : EndsBy slots (Some n) h
    pub keeps : KeepsOrder problem (order_of problem n) (children_in (Some n)) slots
    pub steps : (p : Place) (literals : List Literal) → node_below (Some n) p ≡ Some (step literals) → holds (states (slots p)) literals ≡ true

  -- a leaf or step below a node that the order there puts before another ends by the slot of that
  abbrev Below : Slots → ℕ → Option Node → Place → Place → Type 0
  Below slots i o p q = IsPrimitive (node_below o p) → IsPrimitive (node_below o q) → before problem (order_in problem o) (children_in o) p q ≡ true
      → duration (node_below o p) + slots (i ∷ p) ≤ slots (i ∷ q)

  -- slots that keep an order keep it below each child
  keeps_there : (order : Order) (nodes : Nodes) (slots : Slots) (i : ℕ) (p q : Place) → KeepsOrder problem order nodes slots → Below slots i (child_at nodes i) p q
  keeps_there order nodes slots i p q keeps first second precedes = keeps (i ∷ p) (i ∷ q) first second (rw (eq-eqb i i refl) precedes)

  -- slots that keep an order keep that of each child
  keeps_child : (order : Order) (nodes : Nodes) (slots : Slots) (i : ℕ) (m : Node) → child_at nodes i ≡ Some m → KeepsOrder problem order nodes slots
      → KeepsOrder problem (order_of problem m) (children_in (Some m)) (λ p. slots (i ∷ p))
  keeps_child order nodes slots i m is keeps [] q first second precedes = absurd first
  keeps_child order nodes slots i m is keeps (j ∷ p) [] first second precedes = absurd second
  keeps_child order nodes slots i m is keeps (j ∷ p) (k ∷ q) first second precedes =
      subst (λ o. Below slots i o (j ∷ p) (k ∷ q)) is (keeps_there order nodes slots i (j ∷ p) (k ∷ q) keeps) first second precedes

  module _ (slots : Slots) (order : Order) (closed : IsClosed order) (nodes : Nodes) (g h : ℕ) (forward : g ≤ h)
      (starts : (i : ℕ) → StartsFrom (λ p. slots (i ∷ p)) (child_at nodes i) g) (ends : (i : ℕ) → EndsBy (λ p. slots (i ∷ p)) (child_at nodes i) h)
      (keeps : KeepsOrder problem order nodes slots)
      (steps : (i : ℕ) (p : Place) (literals : List Literal) → node_below (child_at nodes i) p ≡ Some (step literals) → holds (states (slots (i ∷ p))) literals ≡ true) where
    -- where a child starts in its span
    first_gap : ℕ → ℕ
    first_gap = start problem order closed nodes slots g h forward starts ends keeps

    -- where a child ends in its span
    last_gap : ℕ → ℕ
    last_gap = finish problem order closed nodes slots g h forward starts ends keeps

    -- these are spans of the network
    child_spans : AreSpans order first_gap last_gap g h
    unfolding first_gap last_gap
    child_spans = spans problem order closed nodes slots g h forward starts ends keeps

    -- each child keeps to its span
    child_keeps : (i : ℕ) (m : Node) → child_at nodes i ≡ Some m → Keeps (λ p. slots (i ∷ p)) m (first_gap i) (last_gap i)
    unfolding first_gap last_gap
    child_keeps i m is = record {
      forward = (spans problem order closed nodes slots g h forward starts ends keeps).forward i;
      starts = subst (λ o. StartsFrom (λ p. slots (i ∷ p)) o (start problem order closed nodes slots g h forward starts ends keeps i)) is
          (child_starts problem order closed nodes slots g h forward starts ends keeps i);
      ends = subst (λ o. EndsBy (λ p. slots (i ∷ p)) o (finish problem order closed nodes slots g h forward starts ends keeps i)) is
          (child_ends problem order closed nodes slots g h forward starts ends keeps i);
      keeps = keeps_child order nodes slots i m is keeps;
      steps = λ p literals e. steps i p literals (ap (λ o. node_below o p) is ∙ e);
    }

  -- what keeps to a span at a position does so at an equal one
  moved : (slots : Slots) (m : Node) (i j : ℕ) (start finish : ℕ → ℕ) → i ≡ j
      → Keeps (λ p. slots (i ∷ p)) m (start i) (finish i) → Keeps (λ p. slots (j ∷ p)) m (start j) (finish j)
  moved slots m i j start finish same = subst (λ k. Keeps (λ p. slots (k ∷ p)) m (start k) (finish k)) same

  -- positions from the first on are all positions
  at_zero : (slots : Slots) (i : ℕ) (m : Node) (start finish : ℕ → ℕ)
      → Keeps (λ p. slots (i ∷ p)) m (start i) (finish i) → Keeps (λ p. slots ((0 + i) ∷ p)) m (start (0 + i)) (finish (0 + i))
  at_zero slots i m start finish = moved slots m i (0 + i) start finish (omega arith)

  -- spans for the children of a node, each of which keeps to its own
  pub record Spread (slots : Slots) (order : Order) (nodes : Nodes) (g h : ℕ) : Type 0 where
    pub start : ℕ → ℕ
    pub finish : ℕ → ℕ
    pub spans : AreSpans order start finish g h
    pub each : (i : ℕ) (m : Node) → child_at nodes i ≡ Some m → Keeps (λ p. slots ((0 + i) ∷ p)) m (start (0 + i)) (finish (0 + i))

  -- children that keep to spans spread over them
  pub spread_by : (slots : Slots) (order : Order) (closed : IsClosed order) (nodes : Nodes) (g h : ℕ) (forward : g ≤ h)
      (starts : (i : ℕ) → StartsFrom (λ p. slots (i ∷ p)) (child_at nodes i) g) (ends : (i : ℕ) → EndsBy (λ p. slots (i ∷ p)) (child_at nodes i) h)
      (keeps : KeepsOrder problem order nodes slots)
      (steps : (i : ℕ) (p : Place) (literals : List Literal) → node_below (child_at nodes i) p ≡ Some (step literals) → holds (states (slots (i ∷ p))) literals ≡ true)
      → Spread slots order nodes g h
  spread_by slots order closed nodes g h forward starts ends keeps steps = record {
    start = first_gap slots order closed nodes g h forward starts ends keeps steps;
    finish = last_gap slots order closed nodes g h forward starts ends keeps steps;
    spans = child_spans slots order closed nodes g h forward starts ends keeps steps;
    each = λ i m is. at_zero slots i m (first_gap slots order closed nodes g h forward starts ends keeps steps) (last_gap slots order closed nodes g h forward starts ends keeps steps)
        (child_keeps slots order closed nodes g h forward starts ends keeps steps i m is);
  }

  -- the children of a node that keeps to a span spread over it
  spread : (t : GroundTask) (number : ℕ) (nodes : Nodes) (slots : Slots) (g h : ℕ) → Keeps slots (compound t number nodes) g h
      → Spread slots (order_of problem (compound t number nodes)) nodes g h
  spread t number nodes slots g h k = spread_by slots (order_of problem (compound t number nodes)) (order_of_closed problem grounded (compound t number nodes)) nodes g h
      k.forward (λ i p. k.starts (i ∷ p)) (λ i p. k.ends (i ∷ p)) k.keeps (λ i p. k.steps (i ∷ p))

  mutual
    -- a node sits in its span
    pub sits : (n : Node) (slots : Slots) (g h : ℕ) → Keeps slots n g h → Sits problem states slots n g h
    sits (leaf named) slots g h k = (k.starts [] tt, let e = k.ends [] tt in omega arith)
    sits (step literals) slots g h k = (k.starts [] tt, (let e = k.ends [] tt in omega arith), k.steps [] literals refl)
    sits (compound t number nodes) slots g h k =
        let s = spread t number nodes slots g h k in (s.start, s.finish, s.spans, all_sit nodes slots 0 s.start s.finish s.each)

    -- and so does each of its children
    pub all_sit : (ns : Nodes) (slots : Slots) (k : ℕ) (start finish : ℕ → ℕ)
        → ((i : ℕ) (m : Node) → child_at ns i ≡ Some m → Keeps (λ p. slots ((k + i) ∷ p)) m (start (k + i)) (finish (k + i)))
        → AllSit problem states slots k ns start finish
    all_sit no_nodes slots k start finish each = tt
    all_sit (node n ns) slots k start finish each = (
      sits n (λ p. slots (k ∷ p)) (start k) (finish k) (moved slots n (k + 0) k start finish (omega arith) (each 0 n refl)),
      all_sit ns slots (suc k) start finish (λ i m is. moved slots m (k + suc i) (suc k + i) start finish (omega arith) (each (suc i) m is)),
    )
