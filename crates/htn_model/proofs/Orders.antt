-- The inherited order is strict, and what is below a node inherits the node's order.
use Rattle.std.proofs.Common.{◌≡◌, ℕ, Bool, true, false, cond, eqb, [], ◌∷◌, ◌++◌, slice_get, Option, Some, None, ◌⊎◌, inl, inr, sym, refl, ap, ◌∙◌, subst, append_assoc}
use Rattle.std.proofs.lemmas.Bool.{both_ways, cases_eq, eq-eqb, ne_eqb}
use Rattle.htn_model.specs.Problem.{Order, is_before, Network, IsClosed, IsNetwork, Problem, IsGrounded}
use Rattle.htn_model.specs.Tree.{Node, leaf, step, compound, Nodes, Place, child_at, children_of, children_in, node_below, node_at, order_of_network, order_of, order_in, before}

-- the order of no nodes is closed
pub nothing_closed : IsClosed []
nothing_closed = record { irreflexive = λ a. refl; transitive = λ a b c h g. h }

-- the order of a network that may be there is closed
closed_network : (problem : Problem) → IsGrounded problem → (network : Option Network)
    → ((given : Network) → network ≡ Some given → IsNetwork given) → IsClosed (order_of_network network)
closed_network problem grounded None each = nothing_closed
closed_network problem grounded (Some network) each = (each network refl).closed

-- the order of a node's children is closed
pub order_of_closed : (problem : Problem) → IsGrounded problem → (n : Node) → IsClosed (order_of problem n)
order_of_closed problem grounded (leaf g) = nothing_closed
order_of_closed problem grounded (step literals) = nothing_closed
order_of_closed problem grounded (compound t number nodes) =
    closed_network problem grounded (slice_get (problem.methods_of t) number) (grounded.methods t number)

-- so it is of a node that may be there
order_in_closed : (problem : Problem) → IsGrounded problem → (n : Option Node) → IsClosed (order_in problem n)
order_in_closed problem grounded None = nothing_closed
order_in_closed problem grounded (Some n) = order_of_closed problem grounded n

-- ## Where two places begin alike, and where they differ at once

-- the inherited order of the places below a node
abbrev below : Problem → Option Node → Place → Place → Bool
below problem n = before problem (order_in problem n) (children_in n)

-- two places below one child are ordered there
begin_alike : (problem : Problem) (order : Order) (trees : Nodes) (i j : ℕ) (p q : Place) → i ≡ j
    → before problem order trees (i ∷ p) (j ∷ q) ≡ below problem (child_at trees i) p q
begin_alike problem order trees i j p q same = rw (eq-eqb i j same) refl

-- two places below different children are ordered as these are
differ : (problem : Problem) (order : Order) (trees : Nodes) (i j : ℕ) (p q : Place) → (i ≡ j → ⊥)
    → before problem order trees (i ∷ p) (j ∷ q) ≡ is_before order i j
differ problem order trees i j p q other = rw (ne_eqb i j other) refl

-- ## A strict order

-- no place comes before itself
pub before_irreflexive : (problem : Problem) (order : Order) (trees : Nodes) (p : Place) → before problem order trees p p ≡ false
before_irreflexive problem order trees [] = refl
before_irreflexive problem order trees (i ∷ p) = begin_alike problem order trees i i p p refl ∙ before_irreflexive problem _ _ p

module _ (problem : Problem) (order : Order) (trees : Nodes) (closed : IsClosed order) where
  -- a place before one that is before another, whichever children they are below
  step_over : (i j k : ℕ) (p q r : Place)
      → (below problem (child_at trees i) p q ≡ true → below problem (child_at trees i) q r ≡ true → below problem (child_at trees i) p r ≡ true)
      → before problem order trees (i ∷ p) (j ∷ q) ≡ true → before problem order trees (j ∷ q) (k ∷ r) ≡ true → before problem order trees (i ∷ p) (k ∷ r) ≡ true
  step_over i j k p q r deeper h g = elim (cases_eq i j) [
    | inl ij ↦ elim (cases_eq j k) [
      | inl jk ↦ begin_alike problem order trees i k p r (ij ∙ jk)
          ∙ deeper (sym (begin_alike problem order trees i j p q ij) ∙ h)
          (subst (λ n. below problem (child_at trees n) q r ≡ true) (sym ij) (sym (begin_alike problem order trees j k q r jk) ∙ g))
      | inr other ↦ differ problem order trees i k p r (λ same. other (sym ij ∙ same))
          ∙ (subst (λ n. is_before order n k ≡ true) (sym ij) (sym (differ problem order trees j k q r other) ∙ g))
    ]
    | inr other ↦ (let first = sym (differ problem order trees i j p q other) ∙ h in elim (cases_eq j k) [
      | inl jk ↦ differ problem order trees i k p r (λ same. other (same ∙ sym jk)) ∙ subst (λ n. is_before order i n ≡ true) jk first
      | inr another ↦ (let second = sym (differ problem order trees j k q r another) ∙ g in
          let both = closed.transitive i j k first second in
          differ problem order trees i k p r (λ same. both_ways (is_before order i k) (subst (λ n. is_before order i n ≡ false) same (closed.irreflexive i)) both) ∙ both)
    ])
  ]

-- a place before one that is before another is before that
pub before_transitive : (problem : Problem) → IsGrounded problem → (order : Order) (trees : Nodes) → IsClosed order
    → (p q r : Place) → before problem order trees p q ≡ true → before problem order trees q r ≡ true → before problem order trees p r ≡ true
before_transitive problem grounded order trees closed [] q r h g = absurd cc
before_transitive problem grounded order trees closed (i ∷ p) [] r h g = absurd cc
before_transitive problem grounded order trees closed (i ∷ p) (j ∷ q) [] h g = absurd cc
before_transitive problem grounded order trees closed (i ∷ p) (j ∷ q) (k ∷ r) h g =
    step_over problem order trees closed i j k p q r
    (before_transitive problem grounded (order_in problem (child_at trees i)) (children_in (child_at trees i)) (order_in_closed problem grounded (child_at trees i)) p q r) h g

-- ## Places that part

-- neither place begins with the other
abbrev pub Apart : Place → Place → Type 0
Apart [] q = ⊥
Apart (i ∷ p) [] = ⊥
Apart (i ∷ p) (j ∷ q) = (i ≡ j → ⊥) ⊎ Apart p q

-- what is below a place apart from another is apart from it
pub apart_left : (p q r : Place) → Apart p q → Apart (p ++ r) q
apart_left [] q r h = absurd h
apart_left (i ∷ p) [] r h = absurd h
apart_left (i ∷ p) (j ∷ q) r (inl other) = inl other
apart_left (i ∷ p) (j ∷ q) r (inr h) = inr (apart_left p q r h)

-- if one place is apart from another, so is that from it
pub apart_flip : (p q : Place) → Apart p q → Apart q p
apart_flip [] q h = absurd h
apart_flip (i ∷ p) [] h = absurd h
apart_flip (i ∷ p) (j ∷ q) (inl other) = inl (λ e. other (sym e))
apart_flip (i ∷ p) (j ∷ q) (inr h) = inr (apart_flip p q h)

-- two children of a node are apart
pub apart_siblings : (p : Place) (a b : ℕ) → (a ≡ b → ⊥) → Apart (p ++ a ∷ []) (p ++ b ∷ [])
apart_siblings [] a b other = inl other
apart_siblings (i ∷ p) a b other = inr (apart_siblings p a b other)

-- no place is apart from itself
pub not_apart : (p : Place) → Apart p p → ⊥
not_apart [] h = h
not_apart (i ∷ p) (inl other) = other refl
not_apart (i ∷ p) (inr h) = not_apart p h

-- what is below a place comes before others as it does
pub inherits_left : (problem : Problem) (order : Order) (trees : Nodes) (p q r : Place) → Apart p q
    → before problem order trees (p ++ r) q ≡ before problem order trees p q
inherits_left problem order trees [] q r h = absurd h
inherits_left problem order trees (i ∷ p) [] r h = absurd h
inherits_left problem order trees (i ∷ p) (j ∷ q) r (inl other) =
    differ problem order trees i j (p ++ r) q other ∙ sym (differ problem order trees i j p q other)
inherits_left problem order trees (i ∷ p) (j ∷ q) r (inr h) =
    ap (λ b. cond (eqb i j) b (is_before order i j)) (inherits_left problem _ _ p q r h)

-- what is below a place comes after others as it does
pub inherits_right : (problem : Problem) (order : Order) (trees : Nodes) (p q r : Place) → Apart p q
    → before problem order trees p (q ++ r) ≡ before problem order trees p q
inherits_right problem order trees [] q r h = absurd h
inherits_right problem order trees (i ∷ p) [] r h = absurd h
inherits_right problem order trees (i ∷ p) (j ∷ q) r (inl other) =
    differ problem order trees i j p (q ++ r) other ∙ sym (differ problem order trees i j p q other)
inherits_right problem order trees (i ∷ p) (j ∷ q) r (inr h) =
    ap (λ b. cond (eqb i j) b (is_before order i j)) (inherits_right problem _ _ p q r h)

-- ## The part of a forest below a place

-- below the place stands this network
pub record Shows (problem : Problem) (order : Order) (trees : Nodes) (place : Place) (inner : Order) (nodes : Nodes) : Type 0 where
  pub ordered : (r s : Place) → before problem order trees (place ++ r) (place ++ s) ≡ before problem inner nodes r s
  pub finds : (i : ℕ) (r : Place) → node_at trees (place ++ i ∷ r) ≡ node_at nodes (i ∷ r)

-- the trees show themselves at no place
pub shows_itself : (problem : Problem) (order : Order) (trees : Nodes) → Shows problem order trees [] order trees
shows_itself problem order trees = record { ordered = λ r s. refl; finds = λ i r. refl }

-- what is shown at a place shows its children there
pub shows_child : (problem : Problem) (order : Order) (trees : Nodes) (place : Place) (inner : Order) (nodes : Nodes) (a : ℕ) (n : Node)
    → Shows problem order trees place inner nodes → child_at nodes a ≡ Some n
    → Shows problem order trees (place ++ a ∷ []) (order_of problem n) (children_of n)
shows_child problem order trees place inner nodes a n shown stands = record {
  ordered = λ r s.
      (rw (append_assoc place (a ∷ []) r, append_assoc place (a ∷ []) s) (shown.ordered (a ∷ r) (a ∷ s)))
      ∙ begin_alike problem inner nodes a a r s refl ∙ ap (λ m. below problem m r s) stands;
  finds = λ i r.
      (rw (append_assoc place (a ∷ []) (i ∷ r)) (shown.finds a (i ∷ r)))
      ∙ ap (λ m. node_below m (i ∷ r)) stands;
}

-- the child is the node at its place
pub finds_child : (problem : Problem) (order : Order) (trees : Nodes) (place : Place) (inner : Order) (nodes : Nodes) (a : ℕ) (n : Node)
    → Shows problem order trees place inner nodes → child_at nodes a ≡ Some n → node_at trees (place ++ a ∷ []) ≡ Some n
finds_child problem order trees place inner nodes a n shown stands = shown.finds a [] ∙ stands

-- the children of one node have their own network's order
pub before_siblings : (problem : Problem) (inner : Order) (nodes : Nodes) (a b : ℕ) → IsClosed inner
    → before problem inner nodes (a ∷ []) (b ∷ []) ≡ is_before inner a b
before_siblings problem inner nodes a b closed = elim (cases_eq a b) [
  | inl same ↦ begin_alike problem inner nodes a b [] [] same ∙ sym (subst (λ n. is_before inner a n ≡ false) same (closed.irreflexive a))
  | inr other ↦ differ problem inner nodes a b [] [] other
]
