-- A forest of lines that run and have room is the shadow of a solution.
use Rattle.std.proofs.Common.{◌≡◌, ℕ, suc, ◌+◌, Bool, List, [], ◌∷◌, ◌++◌, length, map, Option, Some, None, slice_get, inl, inr, sym, refl, ap, ◌∙◌, subst, arith}
use Rattle.std.specs.List.{AllByRecursion}
use Rattle.htn_model.specs.State.{State}
use Rattle.htn_model.specs.Problem.{Problem, IsGrounded, Network}
use Rattle.htn_model.specs.Tree.{Node, leaf, step, compound, Nodes, no_nodes, node, roots, Place, node_at, primitives_from, before, order_of_network, IsRearrangement, Respects, Solution, IsSolution, run}
use Rattle.htn_model.specs.PlanFile.{DecompositionLine, PlanFile, Naming, IsRearrangementOf, IsIn, IsWithoutRepeats, action_ids, decomposition_ids, IsForest}
use Rattle.htn_model.specs.Shadow.{shown_from, compounds_from, ids_of, IsDecompositionLine, AreDecompositionLines, HasId, IsShadow, IsAccepted}
use Rattle.htn_model.specs.Fits.{PlanTrees, subtask_positions, ForestFits}
use Rattle.htn_model.specs.Placement.{IsPrimitive}
use Rattle.htn_model.specs.Decoupling.{ForestKeeps}
use Rattle.htn_model.specs.Shown.{ShowTrees, LinesRun}
use Rattle.htn_model.proofs.Ascending.{all_in, all_from}
use Rattle.htn_model.proofs.Pending.{all_map}
use Rattle.htn_model.proofs.Forests.{networks_decouple}
use Rattle.htn_model.proofs.Numbered.{IsCompound, primitives_from_stand, compounds_from_stand, top, in_primitives, in_compounds, in_arranged}
use Rattle.htn_model.proofs.Rearranged.{in_wider, in_narrower, split_in, distinct_without, distinct_arranged, distinct_right}
use Rattle.htn_model.proofs.Apart.{all_primitives_distinct, all_compounds_distinct}
use Rattle.htn_model.proofs.Sorted.{sorted, sorted_rearranged, sorted_all, sorted_respects}
use Rattle.htn_model.proofs.Laid.{id_below, Forest, forest_laid, lay_all}
use Rattle.htn_model.proofs.Marked.{compound_line, id_listed, one_to_one, leaf_of, one_leaf, compound_of}
use Rattle.htn_model.proofs.Executed.{precedes, precedes_irreflexive, precedes_transitive, respects_order, Waits, Executes, executes}

-- the ids of the nodes shown, by their positions
pub shown_ids : (id_at : Place → ℕ) (place : Place) (i : ℕ) (ns : Nodes)
    → ids_of id_at (shown_from place i ns) ≡ map (λ a. id_at (place ++ a ∷ [])) (subtask_positions i (roots ns))
shown_ids id_at place i no_nodes = refl
shown_ids id_at place i (node (leaf g) ns) = ap (λ l. id_at (place ++ i ∷ []) ∷ l) (shown_ids id_at place (suc i) ns)
shown_ids id_at place i (node (step literals) ns) = shown_ids id_at place (suc i) ns
shown_ids id_at place i (node (compound t number nodes) ns) = ap (λ l. id_at (place ++ i ∷ []) ∷ l) (shown_ids id_at place (suc i) ns)

-- ## The decomposition lines of the compound nodes

-- the ids of lines joined
pub ids_join : (left right : List DecompositionLine) → decomposition_ids (left ++ right) ≡ decomposition_ids left ++ decomposition_ids right
ids_join [] right = refl
ids_join (line ∷ left) right = ap (λ l. line.id ∷ l) (ids_join left right)

module _ (naming : Naming) (trees : Nodes) (id_at : Place → ℕ) where
  -- the node at a place has a decomposition line
  abbrev HasLine : List DecompositionLine → Place → Type 0
  HasLine lines p = (line : DecompositionLine) × IsIn line lines × IsDecompositionLine naming trees id_at p line

  -- decomposition lines one for each place are those of the places
  pub lines_of_places : (ps : List Place) (lines : List DecompositionLine) → IsWithoutRepeats ps → IsWithoutRepeats (decomposition_ids lines)
      → ((p : Place) → IsIn p ps → HasLine lines p)
      → ((line : DecompositionLine) → IsIn line lines → (p : Place) × IsIn p ps × (id_at p ≡ line.id))
      → ((p q : Place) → IsIn p ps → IsIn q ps → id_at p ≡ id_at q → p ≡ q)
      → AreDecompositionLines naming trees id_at ps lines
  lines_of_places [] [] d e each onto one = refl
  lines_of_places [] (line ∷ lines) d e each onto one = absurd (onto line (inl refl)).1
  lines_of_places (p ∷ ps) lines d e each onto one =
      let (line, there, is) = each p (inl refl) in
      let s = split_in line lines there in
      let ids : decomposition_ids lines ≡ decomposition_ids s.left ++ line.id ∷ decomposition_ids s.right = ap decomposition_ids s.is ∙ ids_join s.left (line ∷ s.right) in
      let parts = distinct_without line.id (decomposition_ids s.left) (decomposition_ids s.right) (subst IsWithoutRepeats ids e) in
      let new : (other : DecompositionLine) → IsIn other (s.left ++ s.right) → line.id ≡ other.id → ⊥ = λ other i same.
      parts.1 (subst (IsIn line.id) (ids_join s.left s.right) (subst (λ k. IsIn k (decomposition_ids (s.left ++ s.right))) (sym same) (id_listed other (s.left ++ s.right) i))) in (
        s.left,
        line,
        s.right,
        s.is,
        is,
        lines_of_places ps (s.left ++ s.right) d.1 (subst IsWithoutRepeats (sym (ids_join s.left s.right)) parts.0)
            (λ q i. let (other, at, is_q) = each q (inr i) in
            elim (in_narrower other line s.left s.right (subst (IsIn other) s.is at)) [
              | inl same ↦ absurd (d.0 (subst (λ r. IsIn r ps) (sym (one p q (inl refl) (inr i) (sym is.id ∙ ap (λ l. l.id) (sym same) ∙ is_q.id))) i))
              | inr left ↦ (other, left, is_q)
            ])
            (λ other i. let (q, at, same) = onto other (subst (IsIn other) (sym s.is) (in_wider other line s.left s.right i)) in
            elim at [
              | inl first ↦ absurd (new other i (is.id ∙ ap id_at (sym first) ∙ same))
              | inr later ↦ (q, later, same)
            ])
            (λ q r i j. one q r (inr i) (inr j)),
      )

-- ## The solution

module _ (naming : Naming) (problem : Problem) (grounded : IsGrounded problem) (file : PlanFile) (is_forest : IsForest file) (states : ℕ → State)
    (runs : LinesRun naming problem file states) (number : ℕ) (network : Network) (is_initial : slice_get problem.initials number ≡ Some network)
    (start finish : ℕ → ℕ) (trees_laid : Forest naming problem file states network.children file.roots start finish)
    (keeps : ForestKeeps problem states trees_laid.slots network.order trees_laid.nodes (length file.actions)) where
  -- the trees that were laid
  abbrev trees : Nodes
  trees = trees_laid.nodes

  -- which place comes before which: by its key, and among equal keys by the inherited order
  abbrev earlier : Place → Place → Bool
  earlier = precedes problem network.order trees trees_laid.slots

  -- the places of leaves and steps
  abbrev places : List Place
  places = primitives_from [] 0 trees

  -- these places in sequence
  abbrev list : List Place
  list = sorted earlier places

  -- each place has a leaf or a step
  stand : AllByRecursion (λ p. IsPrimitive (node_at trees p)) places
  stand = all_map _ _ _ (top IsPrimitive trees) (primitives_from_stand [] 0 trees)

  -- the sorted places are all places
  rearranged : IsRearrangement list places
  rearranged = sorted_rearranged earlier places

  -- and in order
  in_order : Respects earlier list
  in_order = sorted_respects earlier (λ p. IsPrimitive (node_at trees p)) (precedes_irreflexive problem network.order trees trees_laid.slots)
      (precedes_transitive problem network.order trees trees_laid.slots grounded (grounded.initials number network is_initial).closed states (length file.actions) keeps)
      places stand

  -- the roots are the ids of the trees
  listed : IsRearrangementOf file.roots (map (id_below trees_laid.ids) (subtask_positions 0 (roots trees)))
  listed = subst (λ c. IsRearrangementOf file.roots (map (id_below trees_laid.ids) (subtask_positions 0 c))) (sym trees_laid.laid.are_roots) trees_laid.listed

  -- the sorted places wait for the lines
  waits : Waits naming problem file states runs network.order trees trees_laid.slots trees_laid.ids trees_laid.laid.marks keeps
      (leaf_of naming file trees_laid.slots trees_laid.ids trees trees_laid.laid.marks is_forest listed)
      (one_leaf naming file trees_laid.slots trees_laid.ids trees trees_laid.laid.marks is_forest listed) 0 file.actions list
  waits = record {
    are_lines = λ k. ap (slice_get file.actions) (let e : k ≡ 0 + k = omega arith in e);
    up_to = omega arith;
    stand = sorted_all earlier (λ p. IsPrimitive (node_at trees p)) places stand;
    sorted = in_order;
    distinct = distinct_arranged list places rearranged (all_primitives_distinct [] 0 trees);
    low = all_from _ list (λ q i. omega arith);
    complete = λ p g e up. in_arranged p list places rearranged (in_primitives trees p (subst IsPrimitive (sym e) tt));
  }

  -- and are carried out with them
  executed : Executes naming problem file states runs network.order trees trees_laid.slots trees_laid.ids trees_laid.laid.marks keeps
      (leaf_of naming file trees_laid.slots trees_laid.ids trees trees_laid.laid.marks is_forest listed)
      (one_leaf naming file trees_laid.slots trees_laid.ids trees trees_laid.laid.marks is_forest listed) 0 file.actions list
  executed = executes naming problem file states runs network.order trees trees_laid.slots trees_laid.ids trees_laid.laid.marks keeps
      (leaf_of naming file trees_laid.slots trees_laid.ids trees trees_laid.laid.marks is_forest listed)
      (one_leaf naming file trees_laid.slots trees_laid.ids trees trees_laid.laid.marks is_forest listed) list 0 file.actions waits

  -- the trees with that sequence
  abbrev solution : Solution
  solution = record { number = number; trees = trees; linearisation = list }

  -- that is a solution
  solves : IsSolution problem solution
  solves = record {
    network = network;
    is_initial = is_initial;
    are_roots = trees_laid.laid.are_roots;
    are_trees = trees_laid.laid.trees;
    is_rearrangement = rearranged;
    respects = subst (λ o. Respects (before problem o trees) list) (ap order_of_network (sym is_initial))
        (respects_order problem network.order trees trees_laid.slots list in_order);
    reaches_goal = (states (length file.actions), subst (λ s. run problem trees s list ≡ Some (states (length file.actions))) runs.starts executed.ends, runs.ends);
  }

  -- each compound node has its line
  line_of : (p : Place) → IsIn p (compounds_from [] 0 trees) → HasLine naming trees trees_laid.ids file.decompositions p
  line_of p i = by (node_at trees p) refl (all_in _ p _ (all_map _ _ _ (top IsCompound trees) (compounds_from_stand [] 0 trees)) i)
    where
      by : (m : Option Node) → node_at trees p ≡ m → IsCompound m → HasLine naming trees trees_laid.ids file.decompositions p
      by None e h = absurd h
      by (Some (leaf g)) e h = absurd h
      by (Some (step literals)) e h = absurd h
      by (Some (compound t k nodes)) e h =
          let c = compound_line naming file trees_laid.slots trees_laid.ids trees trees_laid.laid.marks p t k nodes e in (
            c.line,
            c.stands,
            record {
              task = t;
              number = k;
              nodes = nodes;
              stands = e;
              id = c.is;
              named = c.named;
              method = c.method;
              children = subst (IsRearrangementOf c.line.children) (sym (shown_ids trees_laid.ids p 0 nodes)) c.children;
            },
          )

  -- and each line a compound node
  onto : (line : DecompositionLine) → IsIn line file.decompositions → (p : Place) × IsIn p (compounds_from [] 0 trees) × (trees_laid.ids p ≡ line.id)
  onto line i =
      let (p, t, k, nodes, e, same) = compound_of naming file trees_laid.slots trees_laid.ids trees trees_laid.laid.marks is_forest listed line i in
      (p, in_compounds trees p (subst IsCompound (sym e) tt), same)

  -- a compound node has an id
  has_id : (p : Place) → IsIn p (compounds_from [] 0 trees) → HasId (node_at trees p)
  has_id p i = let (line, there, is) = line_of p i in subst HasId (sym is.stands) tt

  -- the file is its shadow
  shadow : IsShadow naming file solution
  shadow = record {
    id_at = trees_laid.ids;
    one_to_one = one_to_one naming file trees_laid.slots trees_laid.ids trees trees_laid.laid.marks is_forest listed;
    actions = executed.shown;
    roots = subst (IsRearrangementOf file.roots) (sym (shown_ids trees_laid.ids [] 0 trees)) listed;
    decompositions = lines_of_places naming trees trees_laid.ids (compounds_from [] 0 trees) file.decompositions (all_compounds_distinct [] 0 trees)
        (distinct_right (action_ids file.actions) (decomposition_ids file.decompositions) is_forest.defined_once)
        line_of onto (λ p q i j. one_to_one naming file trees_laid.slots trees_laid.ids trees trees_laid.laid.marks is_forest listed p q (has_id p i) (has_id q j));
  }

  -- so the file is accepted
  pub accepted : IsAccepted naming problem file
  accepted = record { solution = solution; solves = solves; shadow = shadow }

-- a forest of lines that run and have room is accepted
pub fitting_accepted : (naming : Naming) (problem : Problem) → IsGrounded problem → (file : PlanFile) (states : ℕ → State) (plans : PlanTrees) → IsForest file
    → LinesRun naming problem file states → ShowTrees naming file file.roots plans → ForestFits naming problem states plans (length file.actions)
    → IsAccepted naming problem file
fitting_accepted naming problem grounded file states plans is_forest runs shows (number, network, is_initial, room) =
    let start = room.2 in
    let finish = room.3 in
    let trees_laid = forest_laid naming problem file states network.children room.0 file.roots plans start finish room.1 room.5
    (lay_all naming problem file states runs plans room.0 file.roots network.children start finish room.1.stand shows room.6) in
    accepted naming problem grounded file is_forest states runs number network is_initial start finish trees_laid
    ((networks_decouple problem grounded).keeps states trees_laid.slots network.order trees_laid.nodes (length file.actions) (start, finish, room.4, trees_laid.laid.sit))
