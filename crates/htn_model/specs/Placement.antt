-- A place in time for each leaf and step of a forest, and how it respects the inherited order.
use Rattle.std.specs.Prelude.{◌≡◌, ℕ, suc, ◌+◌, ◌≤◌, [], ◌∷◌, Option, Some, None, true, ⊤}
use Rattle.htn_model.specs.State.{State}
use Rattle.htn_model.specs.Literal.{holds}
use Rattle.htn_model.specs.Problem.{Problem, Order}
use Rattle.htn_model.specs.Tree.{Node, leaf, step, compound, Nodes, no_nodes, node, Place, node_at, order_of, before}
use Rattle.htn_model.specs.Fits.{AreSpans}

-- a leaf's slot is the place of its action line, a step's its gap
abbrev pub Slots : Type 0
Slots = Place → ℕ

-- a node is an action or a step
abbrev pub IsPrimitive : Option Node → Type 0
IsPrimitive None = ⊥
IsPrimitive (Some (leaf g)) = ⊤
IsPrimitive (Some (step literals)) = ⊤
IsPrimitive (Some (compound t number nodes)) = ⊥

-- an action ends one gap after it begins, a step in its own
abbrev pub duration : Option Node → ℕ
duration None = 0
duration (Some (leaf g)) = 1
duration (Some (step literals)) = 0
duration (Some (compound t number nodes)) = 0

-- the placement respects the order: a node that is before another one has ended where that begins, so of two actions it
-- is on the earlier line, of an action and a step on its side of the gap, and of two steps in no later gap
abbrev pub KeepsOrder : Problem → Order → Nodes → Slots → Type 0
KeepsOrder problem order trees slots =
    (p q : Place) → IsPrimitive (node_at trees p) → IsPrimitive (node_at trees q) → before problem order trees p q ≡ true
    → duration (node_at trees p) + slots p ≤ slots q

abbrev mutual
  -- the nodes of a tree are placed from a gap to a gap, node by node: the children of each network have spans in its
  -- order
  pub Sits : Problem → (ℕ → State) → Slots → Node → ℕ → ℕ → Type 0
  Sits problem states slots (leaf task) g h = (g ≤ slots []) × (suc (slots []) ≤ h)
  Sits problem states slots (step literals) g h = (g ≤ slots []) × (slots [] ≤ h) × (holds (states (slots [])) literals ≡ true)
  Sits problem states slots (compound t number nodes) g h =
      (start : ℕ → ℕ) × (finish : ℕ → ℕ) × AreSpans (order_of problem (compound t number nodes)) start finish g h × AllSit problem states slots 0 nodes start finish

  -- the children from position i on are placed in their spans
  pub AllSit : Problem → (ℕ → State) → Slots → ℕ → Nodes → (start finish : ℕ → ℕ) → Type 0
  AllSit problem states slots i no_nodes start finish = ⊤
  AllSit problem states slots i (node n ns) start finish =
      Sits problem states (λ p. slots (i ∷ p)) n (start i) (finish i) × AllSit problem states slots (suc i) ns start finish
