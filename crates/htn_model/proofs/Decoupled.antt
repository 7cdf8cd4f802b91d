-- Spans from node to node keep the inherited order of all leaves and steps.
use Rattle.std.proofs.Common.{◌≡◌, ℕ, zero, suc, ◌+◌, ◌≤◌, [], ◌∷◌, Option, Some, None, true, cond, inl, inr, sym, refl, subst, arith}
use Rattle.std.proofs.lemmas.Bool.{cases_eq, eq-eqb, ne_eqb}
use Rattle.htn_model.specs.State.{State}
use Rattle.htn_model.specs.Problem.{Problem, Order, is_before}
use Rattle.htn_model.specs.Tree.{Node, leaf, step, compound, Nodes, no_nodes, node, Place, child_at, children_in, node_below, node_at, order_of, order_in, before}
use Rattle.htn_model.specs.Fits.{AreSpans}
use Rattle.htn_model.specs.Placement.{Slots, IsPrimitive, duration, KeepsOrder, Sits, AllSit}

-- nothing stands below nothing
pub nothing_below : (p : Place) → node_below None p ≡ None
nothing_below [] = refl
nothing_below (i ∷ p) = nothing_below p

-- nothing is no leaf and no step
pub none_primitive : (n : Option Node) → n ≡ None → IsPrimitive n → ⊥
none_primitive n none h = subst IsPrimitive none h

-- the first child of the rest is at its position
sits_at : (problem : Problem) (states : ℕ → State) (slots : Slots) (k : ℕ) (ns : Nodes) (start finish : ℕ → ℕ) (i : ℕ) (n : Node)
    → AllSit problem states slots k ns start finish → child_at ns i ≡ Some n
    → Sits problem states (λ p. slots ((k + i) ∷ p)) n (start (k + i)) (finish (k + i))
sits_at problem states slots k no_nodes start finish i n all h = absurd cc
sits_at problem states slots k (node m ns) start finish zero n all h =
    let same : m ≡ n = cc in let e : k ≡ k + 0 = omega arith in
    subst (λ j. Sits problem states (λ p. slots (j ∷ p)) n (start j) (finish j)) e
    (subst (λ j. Sits problem states (λ p. slots (k ∷ p)) j (start k) (finish k)) same all.0)
sits_at problem states slots k (node m ns) start finish (suc i) n all h =
    let e : suc k + i ≡ k + suc i = omega arith in
    subst (λ j. Sits problem states (λ p. slots (j ∷ p)) n (start j) (finish j)) e (sits_at problem states slots (suc k) ns start finish i n all.1 h)

-- where all children sit, each does
pub sits_child : (problem : Problem) (states : ℕ → State) (slots : Slots) (ns : Nodes) (start finish : ℕ → ℕ) (i : ℕ) (n : Node)
    → AllSit problem states slots 0 ns start finish → child_at ns i ≡ Some n
    → Sits problem states (λ p. slots (i ∷ p)) n (start i) (finish i)
sits_child problem states slots ns start finish i n all h =
    let e : 0 + i ≡ i = omega arith in
    subst (λ j. Sits problem states (λ p. slots (j ∷ p)) n (start j) (finish j)) e (sits_at problem states slots 0 ns start finish i n all h)

-- ## Every leaf and step below a node is within the node's span

-- a leaf or step lies in the span
pub record IsWithin (slots : Slots) (n : Option Node) (p : Place) (g h : ℕ) : Type 0 where
  pub from : g ≤ slots p
  pub to : duration (node_below n p) + slots p ≤ h

module _ (problem : Problem) (states : ℕ → State) where
  -- what sits in a child lies in the child's span
  pub within_child : (p : Place)
      → ((slots : Slots) (n : Node) (g h : ℕ) → Sits problem states slots n g h → IsPrimitive (node_below (Some n) p) → IsWithin slots (Some n) p g h)
      → (slots : Slots) (nodes : Nodes) (i : ℕ) (m : Option Node) → child_at nodes i ≡ m
      → (start finish : ℕ → ℕ) → AllSit problem states slots 0 nodes start finish
      → IsPrimitive (node_below m p) → IsWithin (λ q. slots (i ∷ q)) m p (start i) (finish i)
  within_child p deeper slots nodes i None is start finish all primitive = absurd (none_primitive (node_below None p) (nothing_below p) primitive)
  within_child p deeper slots nodes i (Some n) is start finish all primitive =
      deeper (λ q. slots (i ∷ q)) n (start i) (finish i) (sits_child problem states slots nodes start finish i n all is) primitive

  -- what sits in a node lies in the node's span
  pub within : (p : Place) (slots : Slots) (n : Node) (g h : ℕ) → Sits problem states slots n g h → IsPrimitive (node_below (Some n) p) → IsWithin slots (Some n) p g h
  within [] slots (leaf task) g h sits primitive = record { from = sits.0; to = let e = sits.1 in omega arith }
  within [] slots (step literals) g h sits primitive = record { from = sits.0; to = let e = sits.1 in omega arith }
  within [] slots (compound t number nodes) g h sits primitive = absurd primitive
  within (i ∷ p) slots (leaf task) g h sits primitive = absurd (none_primitive (node_below None p) (nothing_below p) primitive)
  within (i ∷ p) slots (step literals) g h sits primitive = absurd (none_primitive (node_below None p) (nothing_below p) primitive)
  within (i ∷ p) slots (compound t number nodes) g h (start, finish, spans, all) primitive =
      let w = within_child p (within p) slots nodes i (child_at nodes i) refl start finish all primitive in
      let low = spans.from i in let high = spans.to i in
      let w_from = w.from in let w_to = w.to in
      record { from = omega arith; to = omega arith }

-- ## Children of one network interact through its order alone

module _ (problem : Problem) (states : ℕ → State) where
  -- a leaf or step that the order of the trees puts before another ends by the slot of that
  abbrev Ordered : Slots → Order → Nodes → Place → Place → Type 0
  Ordered slots order nodes p q = IsPrimitive (node_at nodes p) → IsPrimitive (node_at nodes q) → before problem order nodes p q ≡ true
      → duration (node_at nodes p) + slots p ≤ slots q

  -- so does one below a node, by the order there
  abbrev pub OrderedBelow : Slots → Option Node → Place → Place → Type 0
  OrderedBelow slots m p q = IsPrimitive (node_below m p) → IsPrimitive (node_below m q) → before problem (order_in problem m) (children_in m) p q ≡ true
      → duration (node_below m p) + slots p ≤ slots q

  -- two that are below one child keep its order
  deep : (p q : Place) → ((slots : Slots) (n : Node) (g h : ℕ) → Sits problem states slots n g h → OrderedBelow slots (Some n) p q)
      → (slots : Slots) (nodes : Nodes) (i : ℕ) (m : Option Node) → child_at nodes i ≡ m → (start finish : ℕ → ℕ) → AllSit problem states slots 0 nodes start finish
      → OrderedBelow (λ r. slots (i ∷ r)) m p q
  deep p q deeper slots nodes i None is start finish all first second h = absurd (none_primitive (node_below None p) (nothing_below p) first)
  deep p q deeper slots nodes i (Some n) is start finish all first second h =
      deeper (λ r. slots (i ∷ r)) n (start i) (finish i) (sits_child problem states slots nodes start finish i n all is) first second h

  -- two that are below different children keep the network's order
  parted : (p q : Place) → ((slots : Slots) (n : Node) (g h : ℕ) → Sits problem states slots n g h → OrderedBelow slots (Some n) p q)
      → (slots : Slots) (order : Order) (nodes : Nodes) (i j : ℕ) (start finish : ℕ → ℕ) (g h : ℕ) → AreSpans order start finish g h → AllSit problem states slots 0 nodes start finish
      → Ordered slots order nodes (i ∷ p) (j ∷ q)
  parted p q deeper slots order nodes i j start finish g h spans all first second precedes = elim (cases_eq i j) [
    | inl same ↦ (
        let inner : before problem (order_in problem (child_at nodes i)) (children_in (child_at nodes i)) p q ≡ true
        = subst (λ b. cond b (before problem (order_in problem (child_at nodes i)) (children_in (child_at nodes i)) p q) (is_before order i j) ≡ true) (eq-eqb i j same) precedes in
        let there : IsPrimitive (node_below (child_at nodes i) q) = subst (λ k. IsPrimitive (node_below (child_at nodes k) q)) (sym same) second in
        let found : duration (node_below (child_at nodes i) p) + slots (i ∷ p) ≤ slots (i ∷ q)
        = deep p q deeper slots nodes i (child_at nodes i) refl start finish all first there inner in
        subst (λ k. duration (node_below (child_at nodes i) p) + slots (i ∷ p) ≤ slots (k ∷ q)) same found)
    | inr other ↦ (
        let apart : is_before order i j ≡ true
        = subst (λ b. cond b (before problem (order_in problem (child_at nodes i)) (children_in (child_at nodes i)) p q) (is_before order i j) ≡ true) (ne_eqb i j other) precedes in
        let between = spans.ordered i j apart in
        let left = within_child problem states p (within problem states p) slots nodes i (child_at nodes i) refl start finish all first in
        let right = within_child problem states q (within problem states q) slots nodes j (child_at nodes j) refl start finish all second in
        let left_to = left.to in let right_from = right.from in omega arith)
  ]

  -- all that sit below a node keep its order
  keeps_below : (p q : Place) (slots : Slots) (n : Node) (g h : ℕ) → Sits problem states slots n g h → OrderedBelow slots (Some n) p q
  keeps_below [] q slots n g h sits first second precedes = absurd cc
  keeps_below (i ∷ p) [] slots n g h sits first second precedes = absurd cc
  keeps_below (i ∷ p) (j ∷ q) slots (leaf named) g h sits first second precedes = absurd (none_primitive (node_below None p) (nothing_below p) first)
  keeps_below (i ∷ p) (j ∷ q) slots (step literals) g h sits first second precedes = absurd (none_primitive (node_below None p) (nothing_below p) first)
  keeps_below (i ∷ p) (j ∷ q) slots (compound t number nodes) g h (start, finish, spans, all) first second precedes =
      parted p q (keeps_below p q) slots (order_of problem (compound t number nodes)) nodes i j start finish g h spans all first second precedes

  -- spans of the roots, and of each node's children within its own, keep the inherited order everywhere
  pub keeps_order : (slots : Slots) (order : Order) (trees : Nodes) (start finish : ℕ → ℕ) (g h : ℕ) → AreSpans order start finish g h
      → AllSit problem states slots 0 trees start finish → KeepsOrder problem order trees slots
  keeps_order slots order trees start finish g h spans all [] q first second precedes = absurd first
  keeps_order slots order trees start finish g h spans all (i ∷ p) [] first second precedes = absurd second
  keeps_order slots order trees start finish g h spans all (i ∷ p) (j ∷ q) first second precedes =
      parted p q (keeps_below p q) slots order trees i j start finish g h spans all first second precedes
