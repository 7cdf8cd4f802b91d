-- A tree that keeps to its spans gives room to the lines that it shades.
use Rattle.std.proofs.Common.{◌≡◌, ℕ, zero, suc, List, [], ◌∷◌, Some, slice_get, ap, subst, arith}
use Rattle.htn_model.specs.State.{State}
use Rattle.htn_model.specs.Literal.{Literal}
use Rattle.htn_model.specs.Problem.{Problem, precondition}
use Rattle.htn_model.specs.Tree.{Node, leaf, step, compound, Nodes, no_nodes, node, roots, child_at, order_of_network, IsTree, AreTrees}
use Rattle.htn_model.proofs.Fronts.{tree_at}
use Rattle.htn_model.specs.PlanFile.{Naming}
use Rattle.htn_model.specs.Fits.{PlanTree, action_at, decomposition, PlanTrees, no_plans, plan, IsMatching, AreSpans, StepsFit, Fits, AllFit}
use Rattle.htn_model.specs.Placement.{Slots, Sits, AllSit}
use Rattle.htn_model.specs.Shades.{Shades, AllShade, PlacedForestsFit}
use Rattle.htn_model.proofs.Decoupled.{sits_child}
use Rattle.htn_model.proofs.Forests.{networks_decouple}
use Rattle.htn_model.specs.Problem.{IsGrounded}

-- a step among the roots is a tree of the nodes
step_there : (nodes : Nodes) (a : ℕ) (literals : List Literal) → slice_get (roots nodes) a ≡ Some (precondition literals) → child_at nodes a ≡ Some (step literals)
step_there no_nodes a literals h = absurd cc
step_there (node (leaf g) ns) zero literals h = absurd cc
step_there (node (step given) ns) zero literals h = let same : given ≡ literals = cc in ap (λ l. Some (step l)) same
step_there (node (compound t number nodes) ns) zero literals h = absurd cc
step_there (node n ns) (suc a) literals h = step_there ns a literals h

module _ (naming : Naming) (problem : Problem) (states : ℕ → State) where
  -- steps that sit hold between start and finish
  steps_fit : (slots : Slots) (nodes : Nodes) (start finish : ℕ → ℕ) → AllSit problem states slots 0 nodes start finish → StepsFit states (roots nodes) start finish
  steps_fit slots nodes start finish all a literals is =
      let sits = sits_child problem states slots nodes start finish a (step literals) all (step_there nodes a literals is) in
      (slots (a ∷ []), sits.0, sits.1, sits.2)

  mutual
    -- bottom up: the lines below a line have room where its tree has
    pub fits_shaded : (p : PlanTree) (slots : Slots) (n : Node) (g h : ℕ) → IsTree problem n → Sits problem states slots n g h → Shades naming slots n p
        → Fits naming problem states p g h
    fits_shaded (action_at named i) slots n g h tree sits (is, at) =
        let here = subst (λ m. Sits problem states slots m g h) is sits in
        let from = here.0 in let to = here.1 in (omega arith, omega arith)
    fits_shaded (decomposition t method plans) slots n g h tree sits (number, nodes, is, name, positions, matching, shades) =
        let (network, found, children, trees) = subst (IsTree problem) is tree in
        let (start, finish, spans, all) = subst (λ m. Sits problem states slots m g h) is sits in (
          number,
          network,
          found,
          name,
          (
            positions,
            subst (λ c. IsMatching c positions plans) children matching,
            start,
            finish,
            subst (λ o. AreSpans o start finish g h) (ap order_of_network found) spans,
            subst (λ c. StepsFit states c start finish) children (steps_fit slots nodes start finish all),
            all_fit_shaded plans slots nodes positions start finish trees all shades,
          ),
        )

    -- the same of the children at these positions
    pub all_fit_shaded : (plans : PlanTrees) (slots : Slots) (nodes : Nodes) (positions : List ℕ) (start finish : ℕ → ℕ)
        → AreTrees problem nodes → AllSit problem states slots 0 nodes start finish → AllShade naming slots nodes positions plans
        → AllFit naming problem states positions plans start finish
    all_fit_shaded no_plans slots nodes positions start finish trees all shades = tt
    all_fit_shaded (plan p plans) slots nodes [] start finish trees all shades = absurd shades
    all_fit_shaded (plan p plans) slots nodes (a ∷ positions) start finish trees all (m, there, shade, shades) = (
      fits_shaded p (λ q. slots (a ∷ q)) m (start a) (finish a) (tree_at problem nodes a m trees there)
          (sits_child problem states slots nodes start finish a m all there) shade,
      all_fit_shaded plans slots nodes positions start finish trees all shades,
    )

-- a forest that is placed in its order shows that its lines have room
pub placed_forests_fit : (naming : Naming) (problem : Problem) → IsGrounded problem → PlacedForestsFit naming problem
placed_forests_fit naming problem grounded states slots number network trees positions plans n is are_roots are_trees matching shades keeps =
    let (start, finish, spans, all) = (networks_decouple problem grounded).sits states slots network.order trees n (grounded.initials number network is).closed keeps in (
      number,
      network,
      is,
      (
        positions,
        subst (λ c. IsMatching c positions plans) are_roots matching,
        start,
        finish,
        spans,
        subst (λ c. StepsFit states c start finish) are_roots (steps_fit naming problem states slots trees start finish all),
        all_fit_shaded naming problem states plans slots trees positions start finish are_trees all shades,
      ),
    )
