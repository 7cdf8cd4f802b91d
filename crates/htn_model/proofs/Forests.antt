-- Spans of a forest's networks and the order of all its leaves and steps.
use Rattle.std.proofs.Common.{◌≡◌, ℕ, ◌+◌, ◌≤◌, List, [], ◌∷◌, Option, Some, None, true, refl, subst, arith}
use Rattle.htn_model.specs.State.{State}
use Rattle.htn_model.specs.Literal.{Literal, holds}
use Rattle.htn_model.specs.Problem.{Problem, IsGrounded}
use Rattle.htn_model.specs.Tree.{Node, leaf, step, compound, Nodes, Place, child_at, node_below, node_at}
use Rattle.htn_model.specs.PlanFile.{Naming}
use Rattle.htn_model.specs.Placement.{Slots, IsPrimitive, duration, Sits, AllSit}
use Rattle.htn_model.specs.Decoupling.{NetworksDecouple, EarliestShowsAll}
use Rattle.htn_model.proofs.Monotone.{fits_monotone, earliest_decides, earliest_monotone}
use Rattle.htn_model.proofs.Decoupled.{nothing_below, within, within_child, sits_child, keeps_order}
use Rattle.htn_model.proofs.Coupled.{spread_by, all_sit}

module _ (problem : Problem) (states : ℕ → State) where
  -- the step at a place holds in its gap
  abbrev Hold : Slots → Option Node → Place → Type 0
  Hold slots m p = (literals : List Literal) → node_below m p ≡ Some (step literals) → holds (states (slots p)) literals ≡ true

  -- nothing is no step
  no_step : (p : Place) (literals : List Literal) → node_below None p ≡ Some (step literals) → ⊥
  no_step p literals h = let none = nothing_below p in absurd cc

  -- steps below a child hold in their gaps
  hold_child : (p : Place) → ((slots : Slots) (n : Node) (g h : ℕ) → Sits problem states slots n g h → Hold slots (Some n) p)
      → (slots : Slots) (nodes : Nodes) (i : ℕ) (m : Option Node) → child_at nodes i ≡ m
      → (start finish : ℕ → ℕ) → AllSit problem states slots 0 nodes start finish → Hold (λ q. slots (i ∷ q)) m p
  hold_child p deeper slots nodes i None is start finish all literals h = absurd (no_step p literals h)
  hold_child p deeper slots nodes i (Some n) is start finish all literals h =
      deeper (λ q. slots (i ∷ q)) n (start i) (finish i) (sits_child problem states slots nodes start finish i n all is) literals h

  -- steps that sit in a node hold in their gaps
  steps_hold : (p : Place) (slots : Slots) (n : Node) (g h : ℕ) → Sits problem states slots n g h → Hold slots (Some n) p
  steps_hold [] slots (leaf named) g h sits literals is = absurd cc
  steps_hold [] slots (step given) g h sits literals is = let same : given ≡ literals = cc in subst (λ l. holds (states (slots [])) l ≡ true) same sits.2
  steps_hold [] slots (compound t number nodes) g h sits literals is = absurd cc
  steps_hold (i ∷ p) slots (leaf named) g h sits literals is = absurd (no_step p literals is)
  steps_hold (i ∷ p) slots (step given) g h sits literals is = absurd (no_step p literals is)
  steps_hold (i ∷ p) slots (compound t number nodes) g h (start, finish, spans, all) literals is =
      hold_child p (steps_hold p) slots nodes i (child_at nodes i) refl start finish all literals is

  -- steps of a forest that sits hold in their gaps
  forest_steps : (slots : Slots) (trees : Nodes) (start finish : ℕ → ℕ) → AllSit problem states slots 0 trees start finish
      → (p : Place) (literals : List Literal) → node_at trees p ≡ Some (step literals) → holds (states (slots p)) literals ≡ true
  forest_steps slots trees start finish all [] literals is = absurd cc
  forest_steps slots trees start finish all (i ∷ p) literals is = hold_child p (steps_hold p) slots trees i (child_at trees i) refl start finish all literals is

  -- leaves and steps of a forest that sits end by the last gap
  forest_ends : (slots : Slots) (trees : Nodes) (start finish : ℕ → ℕ) (n : ℕ) → ((a : ℕ) → finish a ≤ n) → AllSit problem states slots 0 trees start finish
      → (p : Place) → IsPrimitive (node_at trees p) → duration (node_at trees p) + slots p ≤ n
  forest_ends slots trees start finish n to all [] primitive = absurd primitive
  forest_ends slots trees start finish n to all (i ∷ p) primitive =
      let w = within_child problem states p (within problem states p) slots trees i (child_at trees i) refl start finish all primitive in
      let end = w.to in let last = to i in omega arith

-- a forest keeps its order exactly where its networks sit in spans
pub networks_decouple : (problem : Problem) → IsGrounded problem → NetworksDecouple problem
networks_decouple problem grounded = record {
  sits = λ states slots order trees n closed k.
      let s = spread_by problem grounded states slots order closed trees 0 n (omega arith) (λ i p h. omega arith) (λ i p. k.ends (i ∷ p)) k.keeps (λ i p. k.steps (i ∷ p)) in
      (s.start, s.finish, s.spans, all_sit problem grounded states trees slots 0 s.start s.finish s.each);
  keeps = λ states slots order trees n s. record {
    ends = forest_ends problem states slots trees s.0 s.1 n s.2.to s.3;
    keeps = keeps_order problem states slots order trees s.0 s.1 0 n s.2 s.3;
    steps = forest_steps problem states slots trees s.0 s.1 s.3;
  };
}

-- the earliest finish of a line shows what room it has
pub earliest_shows_all : (naming : Naming) (problem : Problem) → EarliestShowsAll naming problem
earliest_shows_all naming problem = record {
  monotone = fits_monotone naming problem;
  decides = earliest_decides naming problem;
  rises = earliest_monotone naming problem;
}
