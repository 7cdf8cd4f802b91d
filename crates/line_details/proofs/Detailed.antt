-- What the details of a file say of each line.
use Rattle.std.proofs.Common.{◌≡◌, ℕ, zero, suc, List, [], ◌∷◌, ◌++◌, true, Some, slice_get, inl, inr, sym, ap, ◌∙◌, subst, arith}
use Rattle.htn_model.specs.Literal.{Literal, holds}
use Rattle.htn_model.specs.Problem.{Problem, precondition}
use Rattle.htn_model.specs.Tree.{leaf, step, compound, Nodes, no_nodes, node, child_at, roots, Place, before, order_of_network, Respects, run}
use Rattle.htn_model.specs.PlanFile.{DecompositionLine, Naming, IsIn}
use Rattle.htn_model.specs.Placement.{IsPrimitive}
use Rattle.htn_model.specs.Shadow.{IsDecompositionLine, AreDecompositionLines}
use Rattle.htn_model.proofs.Marked.{at_child}
use Rattle.htn_model.proofs.Proper.{tree_of_place}
use Rattle.htn_model.proofs.Rearranged.{in_narrower}
use Rattle.htn_model.proofs.Timed.{list_keeps}
use Rattle.line_details.specs.Details.{LinesAreDetailed}
use Rattle.line_details.proofs.Timely.{slot_before}

-- each line is that of a compound node
pub place_of_line : (naming : Naming) (trees : Nodes) (id_at : Place → ℕ) (ps : List Place) (lines : List DecompositionLine) → AreDecompositionLines naming trees id_at ps lines
    → (line : DecompositionLine) → IsIn line lines → (p : Place) × IsDecompositionLine naming trees id_at p line
place_of_line naming trees id_at [] lines all line i = absurd (subst (IsIn line) all i)
place_of_line naming trees id_at (p ∷ ps) lines (left, other, right, e, is, more) line i = elim (in_narrower line other left right (subst (IsIn line) e i)) [
  | inl same ↦ (p, subst (IsDecompositionLine naming trees id_at p) (sym same) is)
  | inr there ↦ place_of_line naming trees id_at ps (left ++ right) more line there
]

-- a step among the roots is a tree of the nodes
pub step_there : (nodes : Nodes) (a : ℕ) (literals : List Literal) → slice_get (roots nodes) a ≡ Some (precondition literals) → child_at nodes a ≡ Some (step literals)
step_there no_nodes a literals h = absurd cc
step_there (node (leaf g) ns) zero literals h = absurd cc
step_there (node (step given) ns) zero literals h = let same : given ≡ literals = cc in ap (λ l. Some (step l)) same
step_there (node (compound t number nodes) ns) zero literals h = absurd cc
step_there (node n ns) (suc a) literals h = step_there ns a literals h

-- the details of a line are its instance and gaps in which the steps hold
pub lines_are_detailed : (naming : Naming) (problem : Problem) → LinesAreDetailed naming problem
lines_are_detailed naming problem file states details runs all line i =
    let s = all.solution in
    let solves = all.solves in
    let shadow = all.shadow in
    let (p, is) = place_of_line naming s.trees shadow.id_at _ file.decompositions shadow.decompositions line i in
    let (network, there, children, trees) = tree_of_place problem s.trees p (compound is.task is.number is.nodes) solves.are_trees is.stands in
    let here = all.each p is.task is.number is.nodes is.stands in
    let number : details.number line.id ≡ is.number = ap details.number is.id ∙ here.number in
    let respects : Respects (before problem solves.network.order s.trees) s.linearisation =
    subst (λ o. Respects (before problem o s.trees) s.linearisation) (ap order_of_network solves.is_initial) solves.respects in
    let keeps = list_keeps naming problem file states runs s.trees shadow.id_at solves.network.order s.linearisation solves.reaches_goal.0 solves.is_rearrangement respects shadow.actions
    (subst (λ x. run problem s.trees x s.linearisation ≡ Some solves.reaches_goal.0) (sym runs.starts) solves.reaches_goal.1) in
    record {
      t = is.task;
      network = network;
      named = is.named;
      is_instance = ap (slice_get (problem.methods_of is.task)) number ∙ there;
      method = is.method ∙ ap (naming.method_name is.task) (sym number);
      steps = λ a literals e.
          let child = step_there is.nodes a literals (ap (λ cs. slice_get cs a) children ∙ e) in
          let stands = at_child s.trees p is.task is.number is.nodes a is.stands ∙ child in
          let counted = slot_before s.trees 0 s.linearisation (p ++ a ∷ []) in
          let gap = ap (λ id. details.gap id a) is.id ∙ here.gap a literals child in
          let ends = keeps.ends (p ++ a ∷ []) (subst IsPrimitive (sym stands) tt) in
          (omega arith, subst (λ k. holds (states k) literals ≡ true) (omega arith) (keeps.steps (p ++ a ∷ []) literals stands));
    }
