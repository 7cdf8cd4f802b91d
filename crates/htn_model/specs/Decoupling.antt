-- A forest respects its order exactly where each network's children have spans that respect the network's order.
use Rattle.std.specs.Prelude.{◌≡◌, ℕ, ◌+◌, ◌≤◌, List, Some, true}
use Rattle.htn_model.specs.State.{State}
use Rattle.htn_model.specs.Literal.{Literal, holds}
use Rattle.htn_model.specs.Problem.{Problem, Order, IsClosed}
use Rattle.htn_model.specs.Tree.{Nodes, step, Place, node_at}
use Rattle.htn_model.specs.PlanFile.{Naming}
use Rattle.htn_model.specs.Fits.{AreSpans, PlanTree, Fits, IsEarliest}
use Rattle.htn_model.specs.Placement.{Slots, IsPrimitive, duration, KeepsOrder, AllSit}

-- the leaves and steps of a forest are placed among n action lines, in the inherited order, each step where its
-- literals hold
pub record ForestKeeps (problem : Problem) (states : ℕ → State) (slots : Slots) (order : Order) (trees : Nodes) (n : ℕ) : Type 0 where
  pub ends : (p : Place) → IsPrimitive (node_at trees p) → duration (node_at trees p) + slots p ≤ n
  pub keeps : KeepsOrder problem order trees slots
  pub steps : (p : Place) (literals : List Literal) → node_at trees p ≡ Some (step literals) → holds (states (slots p)) literals ≡ true

-- the same condition network by network: the children of each network have spans in its order
abbrev pub ForestSits : Problem → (ℕ → State) → Slots → Order → Nodes → ℕ → Type 0
ForestSits problem states slots order trees n =
    (start : ℕ → ℕ) × (finish : ℕ → ℕ) × AreSpans order start finish 0 n × AllSit problem states slots 0 trees start finish

-- a forest is placed in its order exactly where each of its networks is placed in spans
pub record NetworksDecouple (problem : Problem) : Type 0 where
  pub sits : (states : ℕ → State) (slots : Slots) (order : Order) (trees : Nodes) (n : ℕ) → IsClosed order
      → ForestKeeps problem states slots order trees n → ForestSits problem states slots order trees n
  pub keeps : (states : ℕ → State) (slots : Slots) (order : Order) (trees : Nodes) (n : ℕ)
      → ForestSits problem states slots order trees n → ForestKeeps problem states slots order trees n

-- a line has room from gap g to gap k exactly where k is not before its earliest finish for g, and a later g has no
-- earlier such finish
pub record EarliestShowsAll (naming : Naming) (problem : Problem) : Type 0 where
  pub monotone : (states : ℕ → State) (p : PlanTree) (g h g' h' : ℕ) → g' ≤ g → h ≤ h' → Fits naming problem states p g h → Fits naming problem states p g' h'
  pub decides : (states : ℕ → State) (p : PlanTree) (g h k : ℕ) → IsEarliest naming problem states p g h → h ≤ k → Fits naming problem states p g k
  pub rises : (states : ℕ → State) (p : PlanTree) (g g' h h' : ℕ) → g' ≤ g
      → IsEarliest naming problem states p g h → IsEarliest naming problem states p g' h' → h' ≤ h
