-- Along the peeling, the machine's open nodes are the front, and their order is that of the forest.
use Rattle.std.proofs.Common.{◌≡◌, ℕ, zero, suc, ◌+◌, ◌-◌, ◌<◌, ◌≤◌, Bool, false, cond, ◌&&◌, eqb, List, [], ◌∷◌, ◌++◌, length, Some, ◌⊎◌, inl, inr, sym, refl, ap, ◌∙◌, subst, subst₂, ap₂, arith}
use Rattle.std.proofs.lemmas.Bool.{cases_lt, cases_eq, eq-eqb, ne_eqb}
use Rattle.std.proofs.lemmas.List.{length-map, get_or_past}
use Rattle.htn_model.specs.State.{State}
use Rattle.htn_model.specs.Problem.{Order, is_before, Network, IsClosed, Problem, IsGrounded}
use Rattle.htn_model.specs.Tree.{Node, leaf, step, compound, Nodes, no_nodes, node, root, roots, IsTree, AreTrees, Place, child_at, children_of, node_at, order_of, before}
use Rattle.htn_model.specs.Choice.{splice}
use Rattle.htn_model.specs.Code.{Placed, nowhere, front_at, placed, children_at, front_roots, front_order}
use Rattle.htn_model.specs.Machine.{Config, table, origin, replaced_order, replaced}
use Rattle.htn_model.proofs.Orders.{Apart, apart_left, apart_flip, apart_siblings, inherits_left, inherits_right, Shows, shows_child, finds_child, before_siblings, order_of_closed}
use Rattle.htn_model.proofs.Splices.{places_of_splice, Inside, Outside, outside_once, map_splice, table_within, table_past_left, table_past_right}

-- ## The trees under a place

-- the child at a position stands in the front with its place
pub record PlacedAt (place : Place) (i : ℕ) (ns : Nodes) (k : ℕ) : Type 0 where
  pub child : Node
  pub stands : child_at ns k ≡ Some child
  pub is : front_at (placed place i ns) k ≡ record { place = place ++ (i + k) ∷ []; node = child }

-- so it does where one more stands before it
placed_later : (place : Place) (i : ℕ) (n : Node) (ns : Nodes) (k : ℕ) → PlacedAt place (suc i) ns k → PlacedAt place i (node n ns) (suc k)
placed_later place i n ns k p = record {
  child = p.child;
  stands = p.stands;
  is = p.is ∙ ap (λ j. record { place = place ++ j ∷ []; node = p.child }) (let e : suc i + k ≡ i + suc k = omega arith in e);
}

-- each position of placed children has one
pub placed_at : (place : Place) (i : ℕ) (ns : Nodes) (k : ℕ) → k < length (placed place i ns) → PlacedAt place i ns k
placed_at place i no_nodes k h = absurd (omega arith)
placed_at place i (node n ns) zero h = record { child = n; stands = refl; is = ap (λ j. record { place = place ++ j ∷ []; node = n }) (let e : i ≡ i + 0 = omega arith in e) }
placed_at place i (node n ns) (suc k) h = placed_later place i n ns k (placed_at place (suc i) ns k (omega arith))

-- placed children are trees of the same nodes
pub placed_roots : (place : Place) (i : ℕ) (ns : Nodes) → front_roots (placed place i ns) ≡ roots ns
placed_roots place i no_nodes = refl
placed_roots place i (node n ns) = ap (λ rest. root n ∷ rest) (placed_roots place (suc i) ns)

-- a tree of trees is one
pub tree_at : (problem : Problem) (ns : Nodes) (k : ℕ) (n : Node) → AreTrees problem ns → child_at ns k ≡ Some n → IsTree problem n
tree_at problem no_nodes k n h stands = absurd cc
tree_at problem (node m ns) zero n h stands = let same : m ≡ n = cc in subst (IsTree problem) same h.0
tree_at problem (node m ns) (suc k) n h stands = tree_at problem ns k n h.1 stands

-- the children of a tree are trees
pub child_trees : (problem : Problem) (n : Node) → IsTree problem n → AreTrees problem (children_of n)
child_trees problem (leaf g) h = tt
child_trees problem (step literals) h = tt
child_trees problem (compound t number nodes) h = h.3

-- ## Fronts

-- the front is made of nodes of the forest that part from each other
pub record IsFront (problem : Problem) (order : Order) (trees : Nodes) (front : List Placed) : Type 0 where
  pub shown : (a : ℕ) → a < length front → Shows problem order trees (front_at front a).place (order_of problem (front_at front a).node) (children_of (front_at front a).node)
  pub stands : (a : ℕ) → a < length front → node_at trees (front_at front a).place ≡ Some (front_at front a).node
  pub apart : (a b : ℕ) → a < length front → b < length front → (a ≡ b → ⊥) → Apart (front_at front a).place (front_at front b).place
  pub are_trees : (a : ℕ) → a < length front → IsTree problem (front_at front a).node

-- the configuration's open nodes are the front, in its order
pub record Matches (problem : Problem) (order : Order) (trees : Nodes) (front : List Placed) (c : Config) : Type 0 where
  pub roots : c.open_nodes ≡ front_roots front
  pub orders : (a b : ℕ) → is_before c.order a b ≡ front_order (before problem order trees) front a b

-- what stands at the position in a network
pub record Expands (problem : Problem) (x : Placed) (network : Network) : Type 0 where
  pub children : roots (children_of x.node) ≡ network.children
  pub orders : order_of problem x.node ≡ network.order

-- a node has as many children as its network has nodes
pub length_children : (problem : Problem) (x : Placed) (network : Network) → Expands problem x network → length (children_at x) ≡ length network.children
length_children problem x network e = sym (length-map (children_at x) (λ y. root y.node)) ∙ ap length (placed_roots x.place 0 (children_of x.node)) ∙ ap length e.children

-- nothing comes before the empty place
pub before_nothing : (problem : Problem) (order : Order) (trees : Nodes) (p : Place) → before problem order trees p [] ≡ false
before_nothing problem order trees [] = refl
before_nothing problem order trees (i ∷ p) = refl

-- two positions that aren't both the replaced one are told apart
not_both : (a b i : ℕ) (s t : Bool) → (a ≡ i → b ≡ i → ⊥) → cond (eqb a i && eqb b i) s t ≡ t
not_both a b i s t other = elim (cases_eq a i) [
  | inl same ↦ rw (eq-eqb a i same, ne_eqb b i (other same)) refl
  | inr differs ↦ rw (ne_eqb a i differs) refl
]

module _ (problem : Problem) (grounded : IsGrounded problem) (order : Order) (trees : Nodes) (front : List Placed) (i : ℕ) (here : i < length front) where
  -- the node of the front that is replaced
  abbrev x : Placed
  x = front_at front i

  -- the front after it
  abbrev next : List Placed
  next = splice i (children_at x) front

  -- a position of the new front is among the children, or outside
  abbrev At : ℕ → Type 0
  At a = Inside i (children_at x) front nowhere a ⊎ Outside i (children_at x) front nowhere a

  -- each position is one of these
  at : (a : ℕ) → At a
  at a = places_of_splice i (children_at x) front nowhere a here

  -- a child of the replaced node
  child : (a : ℕ) → (p : Inside i (children_at x) front nowhere a) → PlacedAt x.place 0 (children_of x.node) p.offset
  child a p = placed_at x.place 0 (children_of x.node) p.offset p.within

  -- a position among the children has the child with its place
  is_child : (a : ℕ) → (p : Inside i (children_at x) front nowhere a)
      → front_at next a ≡ record { place = x.place ++ p.offset ∷ []; node = (child a p).child }
  is_child a p = p.element ∙ (child a p).is ∙ ap (λ j. record { place = x.place ++ j ∷ []; node = (child a p).child }) (let e : 0 + p.offset ≡ p.offset = omega arith in e)

  module _ (is_front : IsFront problem order trees front) where
    -- a node of the front is the one at its place in the trees
    Good : Placed → Type 0
    Good y = Shows problem order trees y.place (order_of problem y.node) (children_of y.node) × (node_at trees y.place ≡ Some y.node) × IsTree problem y.node

    -- so is each of the new front
    good_at : (a : ℕ) → a < length next → At a → Good (front_at next a)
    unfolding Good
    good_at a within (inl p) =
        let c = child a p in
        subst Good (sym (is_child a p)) (
          shows_child problem order trees x.place (order_of problem x.node) (children_of x.node) p.offset c.child (is_front.shown i here) c.stands,
          finds_child problem order trees x.place (order_of problem x.node) (children_of x.node) p.offset c.child (is_front.shown i here) c.stands,
          tree_at problem (children_of x.node) p.offset c.child (child_trees problem x.node (is_front.are_trees i here)) c.stands,
        )
    good_at a within (inr q) =
        let b = origin i (length (children_at x)) a in
        subst Good (sym q.element) (is_front.shown b (q.within within), is_front.stands b (q.within within), is_front.are_trees b (q.within within))

    -- two nodes of the front have places apart
    Parts : Placed → Placed → Type 0
    Parts y z = Apart y.place z.place

    -- so have each two of the new front
    parts_at : (a b : ℕ) → a < length next → b < length next → (a ≡ b → ⊥) → At a → At b → Parts (front_at next a) (front_at next b)
    unfolding Parts
    parts_at a b low high other (inl p) (inl q) =
        subst₂ Parts (sym (is_child a p)) (sym (is_child b q))
        (apart_siblings x.place p.offset q.offset (λ e. other (let u = p.is in let v = q.is in omega arith)))
    parts_at a b low high other (inl p) (inr q) =
        subst₂ Parts (sym (is_child a p)) (sym q.element)
        (apart_left x.place _ (p.offset ∷ []) (is_front.apart i (origin i (length (children_at x)) b) here (q.within high) (λ e. q.from (sym e))))
    parts_at a b low high other (inr p) (inl q) =
        subst₂ Parts (sym p.element) (sym (is_child b q))
        (apart_flip _ _ (apart_left x.place _ (q.offset ∷ []) (is_front.apart i (origin i (length (children_at x)) a) here (p.within low) (λ e. p.from (sym e)))))
    parts_at a b low high other (inr p) (inr q) =
        subst₂ Parts (sym p.element) (sym q.element)
        (is_front.apart (origin i (length (children_at x)) a) (origin i (length (children_at x)) b) (p.within low) (q.within high)
        (λ e. other (outside_once i (children_at x) front nowhere a b p q e)))

    -- the new front is one
    pub front_next : IsFront problem order trees next
    unfolding Good Parts
    front_next = record {
      shown = λ a h. (good_at a h (at a)).0;
      stands = λ a h. (good_at a h (at a)).1;
      apart = λ a b h g other. parts_at a b h g other (at a) (at b);
      are_trees = λ a h. (good_at a h (at a)).2;
    }

    -- ## The configuration after one number

    module _ (c : Config) (matches : Matches problem order trees front c) (network : Network) (expands : Expands problem x network) where
      -- the inherited order of places
      abbrev precedes : Place → Place → Bool
      precedes = before problem order trees

      -- there are as many children as nodes of the network
      m_is : length (children_at x) ≡ length network.children
      m_is = length_children problem x network expands

      -- the network's order is closed
      closed : IsClosed network.order
      closed = subst IsClosed expands.orders (order_of_closed problem grounded x.node)

      -- two positions are ordered as their places are
      order_at : (a b : ℕ) → a < length next → b < length next → At a → At b
          → replaced_order c.order i (length network.children) network.order a b ≡ precedes (front_at next a).place (front_at next b).place
      order_at a b low high (inl p) (inl q) =
          simp (← m_is, p.from, q.from, eq-eqb i i refl)
          (sym (ap₂ (λ y z. precedes y.place z.place) (is_child a p) (is_child b q)
          ∙ (is_front.shown i here).ordered (p.offset ∷ []) (q.offset ∷ [])
          ∙ before_siblings problem (order_of problem x.node) (children_of x.node) p.offset q.offset (order_of_closed problem grounded x.node)
          ∙ ap (λ o. is_before o p.offset q.offset) expands.orders
          ∙ ap₂ (is_before network.order) (let e : p.offset ≡ a - i = (let u = p.is in omega arith) in e) (let e : q.offset ≡ b - i = (let u = q.is in omega arith) in e)))
      order_at a b low high (inl p) (inr q) =
          let m = length network.children in
          let u : origin i m a ≡ i = subst (λ m. origin i m a ≡ i) m_is p.from in
          let v : origin i m b ≡ origin i (length (children_at x)) b = ap (λ m. origin i m b) (sym m_is) in
          not_both (origin i m a) (origin i m b) i _ _ (λ e g. q.from (sym v ∙ g))
          ∙ matches.orders (origin i m a) (origin i m b)
          ∙ ap₂ (λ y z. precedes (front_at front y).place (front_at front z).place) u v
          ∙ sym (inherits_left problem order trees x.place _ (p.offset ∷ []) (is_front.apart i (origin i (length (children_at x)) b) here (q.within high) (λ e. q.from (sym e))))
          ∙ sym (ap₂ (λ y z. precedes y.place z.place) (is_child a p) q.element)
      order_at a b low high (inr p) (inl q) =
          let m = length network.children in
          let u : origin i m b ≡ i = subst (λ m. origin i m b ≡ i) m_is q.from in
          let v : origin i m a ≡ origin i (length (children_at x)) a = ap (λ m. origin i m a) (sym m_is) in
          not_both (origin i m a) (origin i m b) i _ _ (λ e g. p.from (sym v ∙ e))
          ∙ matches.orders (origin i m a) (origin i m b)
          ∙ ap₂ (λ y z. precedes (front_at front y).place (front_at front z).place) v u
          ∙ sym (inherits_right problem order trees _ x.place (q.offset ∷ []) (is_front.apart (origin i (length (children_at x)) a) i (p.within low) here p.from))
          ∙ sym (ap₂ (λ y z. precedes y.place z.place) p.element (is_child b q))
      order_at a b low high (inr p) (inr q) =
          let m = length network.children in
          let u : origin i m a ≡ origin i (length (children_at x)) a = ap (λ m. origin i m a) (sym m_is) in
          let v : origin i m b ≡ origin i (length (children_at x)) b = ap (λ m. origin i m b) (sym m_is) in
          not_both (origin i m a) (origin i m b) i _ _ (λ e g. q.from (sym v ∙ g))
          ∙ matches.orders (origin i m a) (origin i m b)
          ∙ ap₂ (λ y z. precedes (front_at front y).place (front_at front z).place) u v
          ∙ sym (ap₂ (λ y z. precedes y.place z.place) p.element q.element)

      -- the open nodes after a step are those of the new front
      roots_next : splice i network.children c.open_nodes ≡ front_roots next
      roots_next =
          ap₂ (splice i) (sym (placed_roots x.place 0 (children_of x.node) ∙ expands.children)) matches.roots
          ∙ sym (map_splice (λ y. root y.node) i (children_at x) front)

      -- there are as many
      length_next : length (splice i network.children c.open_nodes) ≡ length next
      length_next = ap length roots_next ∙ length-map next (λ y. root y.node)

      -- their order is that of the new front
      order_next : (a b : ℕ) → is_before (table (length (splice i network.children c.open_nodes)) (replaced_order c.order i (length network.children) network.order)) a b ≡ front_order precedes next a b
      order_next a b =
          let n = length (splice i network.children c.open_nodes) in
          let f = replaced_order c.order i (length network.children) network.order in
          elim (cases_lt a n) [
            | inl low ↦ elim (cases_lt b n) [
              | inl high ↦ table_within n f a b low high ∙ order_at a b (subst (λ n. a < n) length_next low) (subst (λ n. b < n) length_next high) (at a) (at b)
              | inr past ↦ table_past_right n f a b past
                  ∙ sym (ap (λ y. precedes (front_at next a).place y.place) (get_or_past next b nowhere (subst (λ n. n ≤ b) length_next past)) ∙ before_nothing problem order trees _)
            ]
            | inr past ↦ table_past_left n f a b past
                ∙ sym (ap (λ y. precedes y.place (front_at next b).place) (get_or_past next a nowhere (subst (λ n. n ≤ a) length_next past)))
          ]

      -- a decomposition and a removal keep the open nodes and their order those of the front
      pub matches_next : (state : State) → Matches problem order trees next (replaced c i network state)
      matches_next state = record { roots = roots_next; orders = order_next }
