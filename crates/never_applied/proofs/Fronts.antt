-- What is so of the nodes of a front and of all below them, where one of them is replaced by its children.
use Rattle.std.proofs.Common.{ℕ, suc, ◌<◌, List, [], ◌∷◌, ◌++◌, length, take, drop, sym, subst}
use Rattle.std.specs.List.{AllByRecursion}
use Rattle.htn_model.specs.Choice.{splice}
use Rattle.htn_model.specs.Code.{Placed, nowhere, front_at, placed, children_at}
use Rattle.htn_model.specs.Tree.{Node, leaf, step, compound, Nodes, no_nodes, node, Place, children_of}
use Rattle.htn_model.proofs.Pending.{all_join}
use Rattle.htn_model.proofs.Splices.{split_at}
use Rattle.never_applied.specs.Solutions.{AllBelow, Below}

-- what holds of all elements of two lists holds of those of the first, and of the second
pub all_parts : {X : Type 0} (P : X → Type 0) (xs ys : List X) → AllByRecursion P (xs ++ ys) → AllByRecursion P xs × AllByRecursion P ys
all_parts P [] ys all = (tt, all)
all_parts P (x ∷ xs) ys all = let rest = all_parts P xs ys all.1 in ((all.0, rest.0), rest.1)

module _ (P : Node → Type 0) where
  -- it is so of a node and of all below its children
  pub below_parts : (n : Node) → Below P n → P n × AllBelow P (children_of n)
  below_parts (leaf g) h = (h, tt)
  below_parts (step literals) h = (h, tt)
  below_parts (compound t number nodes) h = h

  -- and the other way round
  pub below_from : (n : Node) → P n → AllBelow P (children_of n) → Below P n
  below_from (leaf g) h more = h
  below_from (step literals) h more = h
  below_from (compound t number nodes) h more = (h, more)

  -- it is so of what stands in a front and of all below
  abbrev pub InFront : List Placed → Type 0
  InFront front = AllByRecursion (λ x. Below P x.node) front

  -- trees under a place
  pub placed_below : (place : Place) (i : ℕ) (ns : Nodes) → AllBelow P ns → InFront (placed place i ns)
  placed_below place i no_nodes h = tt
  placed_below place i (node n ns) h = (h.0, placed_below place (suc i) ns h.1)

  -- and the other way round
  pub below_placed : (place : Place) (i : ℕ) (ns : Nodes) → InFront (placed place i ns) → AllBelow P ns
  below_placed place i no_nodes h = tt
  below_placed place i (node n ns) h = (h.0, below_placed place (suc i) ns h.1)

  module _ (front : List Placed) (i : ℕ) (low : i < length front) where
    -- what stands there
    abbrev x : Placed
    x = front_at front i

    -- it is so after one was replaced by its children
    pub after_replaced : InFront front → InFront (splice i (children_at x) front)
    after_replaced h =
        let Q = λ (y : Placed). Below P y.node in
        let parts = all_parts Q (take i front) (x ∷ drop (suc i) front) (subst InFront (split_at i front nowhere low) h) in
        all_join Q (take i front) _ parts.0 (all_join Q (children_at x) (drop (suc i) front) (placed_below x.place 0 (children_of x.node) (below_parts x.node parts.1.0).1) parts.1.1)

    -- and before, if it is so of the one
    pub before_replaced : P x.node → InFront (splice i (children_at x) front) → InFront front
    before_replaced here h =
        let Q = λ (y : Placed). Below P y.node in
        let parts = all_parts Q (take i front) (children_at x ++ drop (suc i) front) h in
        let rest = all_parts Q (children_at x) (drop (suc i) front) parts.1 in
        subst InFront (sym (split_at i front nowhere low))
        (all_join Q (take i front) _ parts.0 (below_from x.node here (below_placed x.place 0 (children_of x.node) rest.0), rest.1))

    -- it is so of what stands there
    pub stands_so : InFront front → P x.node
    stands_so h =
        let Q = λ (y : Placed). Below P y.node in
        let parts = all_parts Q (take i front) (x ∷ drop (suc i) front) (subst InFront (split_at i front nowhere low) h) in
        (below_parts x.node parts.1.0).0
