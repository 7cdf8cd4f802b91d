-- A file that is the shadow of a solution is a forest of lines with instances that run to the goal.
use Rattle.std.proofs.Common.{◌≡◌, ℕ, zero, suc, ◌+◌, ◌<◌, Bool, true, false, cond, List, [], ◌∷◌, ◌++◌, length, map, Option, Some, None, option_and_then, ◌⊎◌, inl, inr, sym, refl, ap, ◌∙◌, subst, arith}
use Rattle.std.specs.List.{AllByRecursion}
use Rattle.std.proofs.lemmas.List.{length-append}
use Rattle.htn_model.specs.State.{State}
use Rattle.htn_model.specs.Literal.{holds}
use Rattle.htn_model.specs.Problem.{GroundTask, Problem, perform_action}
use Rattle.htn_model.specs.Tree.{Node, leaf, step, compound, Nodes, no_nodes, node, roots, Place, child_at, node_below, node_at, IsTree, AreTrees, Solution, IsSolution, run, perform_at}
use Rattle.htn_model.specs.PlanFile.{ActionLine, DecompositionLine, PlanFile, Naming, IsRearrangementOf, IsIn, IsWithoutRepeats, action_ids, decomposition_ids, all_children, defined_ids, listed_ids, IsForest, IsReached, from_root, from_parent}
use Rattle.htn_model.specs.Shadow.{shown_from, compounds_from, ids_of, AreActionLines, end, action_line, no_line, IsStep, IsDecompositionLine, AreDecompositionLines, HasId, IsShadow, IsAccepted}
use Rattle.htn_model.specs.Verdict as verdict
use Rattle.htn_model.specs.Verdict.{action_lines, decomposition_lines, root_line, Names, an_action, a_task, subtasks, AreNamed, AreSubtasks, HasInstance, perform_line, run_lines, Has, AllHave, Ends}
use Rattle.htn_model.specs.Fits.{subtask_positions}
use Rattle.htn_model.specs.Placement.{IsPrimitive}
use Rattle.htn_model.proofs.Ascending.{in_left, in_right, in_split, in_map, in_mapped}
use Rattle.htn_model.proofs.Pending.{all_join, not_nothing}
use Rattle.htn_model.proofs.Fronts.{tree_at}
use Rattle.htn_model.proofs.Decoupled.{nothing_below}
use Rattle.htn_model.proofs.Numbered.{IsCompound, in_primitives, in_compounds, in_arranged}
use Rattle.htn_model.proofs.Rearranged as lists
use Rattle.htn_model.proofs.Rearranged.{in_wider, in_narrower, in_rearranged, split_in, distinct_with, distinct_arranged, distinct_join, distinct_without}
use Rattle.htn_model.proofs.Apart.{after_place, all_primitives_distinct, all_compounds_distinct}
use Rattle.htn_model.proofs.Laid.{subtasks_distinct}
use Rattle.htn_model.proofs.Marked.{at_child, has_id_at, Parent, a_root, a_child, parent_of, child_listed, id_listed, action_id_listed}
use Rattle.htn_model.proofs.Accepted.{shown_ids, ids_join}
use Rattle.htn_model.proofs.Fitted.{compound_has_line}
use Rattle.htn_model.proofs.Planted.{action_of_id, decomposition_of_id}

-- ## Lists

-- lists without repeats that have the same members are rearrangements
pub same_members : {X : Type 0} (xs ys : List X) → IsWithoutRepeats xs → IsWithoutRepeats ys → ((x : X) → IsIn x xs → IsIn x ys) → ((x : X) → IsIn x ys → IsIn x xs)
    → IsRearrangementOf xs ys
same_members [] [] d e to from = refl
same_members [] (y ∷ ys) d e to from = absurd (from y (inl refl))
same_members (x ∷ xs) ys d e to from =
    let s = split_in x ys (to x (inl refl)) in
    let parts = distinct_without x s.left s.right (subst IsWithoutRepeats s.is e) in (
      s.left,
      s.right,
      s.is,
      same_members xs (s.left ++ s.right) d.1 parts.0
          (λ y i. elim (in_narrower y x s.left s.right (subst (IsIn y) s.is (to y (inr i)))) [
            | inl same ↦ absurd (d.0 (subst (λ z. IsIn z xs) same i))
            | inr there ↦ there
          ])
          (λ y i. elim (from y (subst (IsIn y) (sym s.is) (in_wider y x s.left s.right i))) [
            | inl same ↦ absurd (parts.1 (subst (λ z. IsIn z (s.left ++ s.right)) same i))
            | inr there ↦ there
          ]),
    )

-- a function that keeps members apart makes no repeat
mapped_distinct : {X Y : Type 0} (f : X → Y) (xs : List X) → IsWithoutRepeats xs → ((x y : X) → IsIn x xs → IsIn y xs → f x ≡ f y → x ≡ y) → IsWithoutRepeats (map f xs)
mapped_distinct f [] d one = tt
mapped_distinct f (x ∷ xs) d one = (
  (λ i. let (y, there, same) = in_map f (f x) xs i in d.0 (subst (λ z. IsIn z xs) (sym (one x y (inl refl) (inr there) same)) there)),
  mapped_distinct f xs d.1 (λ y z i j. one y z (inr i) (inr j)),
)

-- the line that lists a child
child_of_lines : (x : ℕ) (lines : List DecompositionLine) → IsIn x (all_children lines) → (line : DecompositionLine) × IsIn line lines × IsIn x line.children
child_of_lines x [] i = absurd i
child_of_lines x (l ∷ lines) i = elim (in_split x l.children (all_children lines) i) [
  | inl j ↦ (l, inl refl, j)
  | inr j ↦ (let (line, there, below) = child_of_lines x lines j in (line, inr there, below))
]

-- places with one position more are equal above it
same_above : (p q : Place) (a b : ℕ) → p ++ a ∷ [] ≡ q ++ b ∷ [] → p ≡ q
same_above [] [] a b e = refl
same_above [] (j ∷ q) a b e = let tails : [] ≡ q ++ b ∷ [] = cc in absurd (not_nothing q b [] tails)
same_above (i ∷ p) [] a b e = let tails : [] ≡ p ++ a ∷ [] = cc in absurd (not_nothing p a [] tails)
same_above (i ∷ p) (j ∷ q) a b e =
    let heads : i ≡ j = cc in let tails : p ++ a ∷ [] ≡ q ++ b ∷ [] = cc in
    let more = same_above p q a b tails in
    λ k. heads k ∷ more k

-- and in that position
same_last : (p : Place) (a b : ℕ) → p ++ a ∷ [] ≡ p ++ b ∷ [] → a ≡ b
same_last p a b e = let inner = after_place p (a ∷ []) (b ∷ []) e in cc

-- ## The tree of a place

module _ (problem : Problem) where
  -- the node below a tree is a tree
  tree_below : (p : Place) (n m : Node) → IsTree problem n → node_below (Some n) p ≡ Some m → IsTree problem m
  tree_below [] n m tree e = let same : n ≡ m = cc in subst (IsTree problem) same tree
  tree_below (i ∷ p) (leaf g) m tree e = let none = nothing_below p in absurd cc
  tree_below (i ∷ p) (step literals) m tree e = let none = nothing_below p in absurd cc
  tree_below (i ∷ p) (compound t number nodes) m tree e = by (child_at nodes i) refl e (λ c. tree_below p c m)
    where
      by : (o : Option Node) → child_at nodes i ≡ o → node_below o p ≡ Some m → ((c : Node) → IsTree problem c → node_below (Some c) p ≡ Some m → IsTree problem m) → IsTree problem m
      by None here there more = let none = nothing_below p in absurd cc
      by (Some c) here there more = more c (tree_at problem nodes i c tree.3 here) there

  -- so is the node at a place
  pub tree_of_place : (trees : Nodes) (p : Place) (m : Node) → AreTrees problem trees → node_at trees p ≡ Some m → IsTree problem m
  tree_of_place trees [] m all e = absurd cc
  tree_of_place trees (i ∷ p) m all e = by (child_at trees i) refl e
    where
      by : (o : Option Node) → child_at trees i ≡ o → node_below o p ≡ Some m → IsTree problem m
      by None here there = let none = nothing_below p in absurd cc
      by (Some c) here there = tree_below p c m (tree_at problem trees i c all here) there

  -- a step changes no state
  past_step : (n : Option Node) (state last : State) (f : State → Option State) → IsStep n → option_and_then f (perform_at problem state n) ≡ Some last → f state ≡ Some last
  past_step None state last f is e = absurd is
  past_step (Some (leaf g)) state last f is e = absurd is
  past_step (Some (step literals)) state last f is e = by (holds state literals) e
    where
      by : (b : Bool) → option_and_then f (cond b (Some state) None) ≡ Some last → f state ≡ Some last
      by true go = go
      by false go = absurd cc
  past_step (Some (compound t number nodes)) state last f is e = absurd is

module _ (naming : Naming) (problem : Problem) (trees : Nodes) (id_at : Place → ℕ) where
  -- ## The lines run

  -- a linearisation runs as its lines do
  run_as_lines : (qs : List Place) (lines : List ActionLine) → AreActionLines naming trees id_at qs lines → (state last : State)
      → run problem trees state qs ≡ Some last → run_lines naming problem state lines ≡ Some last
  run_as_lines qs lines end state last e = e
  run_as_lines qs lines (action_line p ps g line others is id named more) state last e =
      by (perform_at problem state (node_at trees p)) refl e (λ next. run_as_lines ps others more next last)
    where
      same : perform_line naming problem state line ≡ perform_at problem state (node_at trees p)
      same = ap (λ m. perform_action state (option_and_then problem.action_of m)) named ∙ sym (ap (perform_at problem state) is)

      by : (next : Option State) → perform_at problem state (node_at trees p) ≡ next → option_and_then (λ s. run problem trees s ps) next ≡ Some last
          → ((s : State) → run problem trees s ps ≡ Some last → run_lines naming problem s others ≡ Some last)
          → option_and_then (λ s. run_lines naming problem s others) (perform_line naming problem state line) ≡ Some last
      by None f go deeper = absurd cc
      by (Some next) f go deeper = ap (option_and_then (λ s. run_lines naming problem s others)) (same ∙ f) ∙ deeper next go
  run_as_lines qs lines (no_line p ps others is more) state last e =
      run_as_lines ps others more state last (past_step problem (node_at trees p) state last (λ s. run problem trees s ps) is e)

  -- ## Lines and nodes

  -- a leaf among the places has a line
  leaf_has_line : (qs : List Place) (lines : List ActionLine) → AreActionLines naming trees id_at qs lines → (p : Place) (g : GroundTask) → IsIn p qs → node_at trees p ≡ Some (leaf g)
      → (line : ActionLine) × IsIn line lines × (line.id ≡ id_at p) × (naming.named line.name line.arguments ≡ Some g)
  leaf_has_line qs lines end p g i e = absurd i
  leaf_has_line qs lines (action_line q ps t line others is id named more) p g (inl same) e =
      let both : Some (leaf t) ≡ Some (leaf g) = sym is ∙ ap (node_at trees) (sym same) ∙ e in
      let tasks : t ≡ g = cc in
      (line, inl refl, id ∙ ap id_at (sym same), named ∙ ap Some tasks)
  leaf_has_line qs lines (action_line q ps t line others is id named more) p g (inr i) e =
      let (found, there, same, names) = leaf_has_line ps others more p g i e in (found, inr there, same, names)
  leaf_has_line qs lines (no_line q ps others is more) p g (inl same) e = absurd (subst IsStep (ap (node_at trees) (sym same) ∙ e) is)
  leaf_has_line qs lines (no_line q ps others is more) p g (inr i) e = leaf_has_line ps others more p g i e

  -- a line has a leaf
  line_has_leaf : (qs : List Place) (lines : List ActionLine) → AreActionLines naming trees id_at qs lines → (line : ActionLine) → IsIn line lines
      → (p : Place) × (g : GroundTask) × IsIn p qs × (node_at trees p ≡ Some (leaf g)) × (line.id ≡ id_at p) × (naming.named line.name line.arguments ≡ Some g)
  line_has_leaf qs lines end line i = absurd i
  line_has_leaf qs lines (action_line q ps t first others is id named more) line (inl same) =
      (q, t, inl refl, is, ap (λ l. l.id) same ∙ id, ap (λ l. naming.named l.name l.arguments) same ∙ named)
  line_has_leaf qs lines (action_line q ps t first others is id named more) line (inr i) =
      let (p, g, there, stands, same, names) = line_has_leaf ps others more line i in (p, g, inr there, stands, same, names)
  line_has_leaf qs lines (no_line q ps others is more) line i =
      let (p, g, there, stands, same, names) = line_has_leaf ps others more line i in (p, g, inr there, stands, same, names)

  -- a decomposition line has a compound node
  line_has_compound : (ps : List Place) (lines : List DecompositionLine) → AreDecompositionLines naming trees id_at ps lines → (line : DecompositionLine) → IsIn line lines
      → (p : Place) × IsIn p ps × IsDecompositionLine naming trees id_at p line
  line_has_compound [] lines all line i = absurd (subst (IsIn line) all i)
  line_has_compound (q ∷ ps) lines (left, first, right, e, is, more) line i =
      by (in_narrower line first left right (subst (IsIn line) e i)) (line_has_compound ps (left ++ right) more line)
    where
      by : (line ≡ first) ⊎ IsIn line (left ++ right) → (IsIn line (left ++ right) → (p : Place) × IsIn p ps × IsDecompositionLine naming trees id_at p line)
          → (p : Place) × IsIn p (q ∷ ps) × IsDecompositionLine naming trees id_at p line
      by (inl same) deeper = (q, inl refl, subst (IsDecompositionLine naming trees id_at q) (sym same) is)
      by (inr j) deeper = let (p, there, found) = deeper j in (p, inr there, found)

module _ (naming : Naming) (problem : Problem) (file : PlanFile) (s : Solution) (solves : IsSolution problem s) (shadow : IsShadow naming file s) where
  -- the trees of the solution
  abbrev trees : Nodes
  trees = s.trees

  -- the ids of its lines
  abbrev id_at : Place → ℕ
  id_at = shadow.id_at

  -- a leaf is in the linearisation
  leaf_in : (p : Place) (g : GroundTask) → node_at trees p ≡ Some (leaf g) → IsIn p s.linearisation
  leaf_in p g e = in_arranged p s.linearisation _ solves.is_rearrangement (in_primitives trees p (subst IsPrimitive (sym e) tt))

  -- its line
  leaf_line : (p : Place) (g : GroundTask) → node_at trees p ≡ Some (leaf g)
      → (line : ActionLine) × IsIn line file.actions × (line.id ≡ id_at p) × (naming.named line.name line.arguments ≡ Some g)
  leaf_line p g e = leaf_has_line naming problem trees id_at s.linearisation file.actions shadow.actions p g (leaf_in p g e) e

  -- the line of a compound node
  compound_line : (p : Place) (t : GroundTask) (k : ℕ) (nodes : Nodes) → node_at trees p ≡ Some (compound t k nodes)
      → (line : DecompositionLine) × IsIn line file.decompositions × IsDecompositionLine naming trees id_at p line
  compound_line p t k nodes e =
      compound_has_line naming trees id_at (compounds_from [] 0 trees) file.decompositions shadow.decompositions p (in_compounds trees p (subst IsCompound (sym e) tt))

  -- and the compound node of a line
  compound_of_line : (line : DecompositionLine) → IsIn line file.decompositions → (p : Place) × IsIn p (compounds_from [] 0 trees) × IsDecompositionLine naming trees id_at p line
  compound_of_line = line_has_compound naming problem trees id_at (compounds_from [] 0 trees) file.decompositions shadow.decompositions

  -- the lines run to the goal
  line_ends : Ends naming problem file true
  line_ends =
      let (last, goes, goal) = solves.reaches_goal in
      (last, run_as_lines naming problem trees id_at s.linearisation file.actions shadow.actions problem.initial_state last goes, goal)

  -- ## Instances

  -- a leaf's line has its task
  names_leaf : (p : Place) (g : GroundTask) → node_at trees p ≡ Some (leaf g) → Names naming file (id_at p) g
  names_leaf p g e = let (line, there, is, named) = leaf_line p g e in subst (λ k. Names naming file k g) is (an_action line g there named)

  -- so has a compound node's
  names_compound : (p : Place) (t : GroundTask) (k : ℕ) (nodes : Nodes) → node_at trees p ≡ Some (compound t k nodes) → Names naming file (id_at p) t
  names_compound p t k nodes e =
      let (line, there, is) = compound_line p t k nodes e in
      let both : Some (compound t k nodes) ≡ Some (compound is.task is.number is.nodes) = sym e ∙ is.stands in
      let tasks : is.task ≡ t = cc in
      subst (λ i. Names naming file i t) is.id (a_task line t there (is.named ∙ ap Some tasks))

  -- the trees at a place, from a position on, are these
  abbrev Finds : Place → ℕ → Nodes → Type 0
  Finds place i ns = (k : ℕ) → node_at trees (place ++ (i + k) ∷ []) ≡ child_at ns k

  -- trees from the next position on
  finds_later : (place : Place) (i : ℕ) (n : Node) (ns : Nodes) → Finds place i (node n ns) → Finds place (suc i) ns
  finds_later place i n ns finds k = ap (λ m. node_at trees (place ++ m ∷ [])) (let e : suc i + k ≡ i + suc k = omega arith in e) ∙ finds (suc k)

  -- the tree at the first position
  finds_first : (place : Place) (i : ℕ) (n : Node) (ns : Nodes) → Finds place i (node n ns) → node_at trees (place ++ i ∷ []) ≡ Some n
  finds_first place i n ns finds = ap (λ m. node_at trees (place ++ m ∷ [])) (let e : i ≡ i + 0 = omega arith in e) ∙ finds 0

  -- the ids of the nodes shown name the subtasks
  are_named : (place : Place) (i : ℕ) (ns : Nodes) → Finds place i ns → AreNamed naming file (ids_of id_at (shown_from place i ns)) (subtasks (roots ns))
  are_named place i no_nodes finds = refl
  are_named place i (node (leaf g) ns) finds =
      (names_leaf (place ++ i ∷ []) g (finds_first place i (leaf g) ns finds), are_named place (suc i) ns (finds_later place i (leaf g) ns finds))
  are_named place i (node (step literals) ns) finds = are_named place (suc i) ns (finds_later place i (step literals) ns finds)
  are_named place i (node (compound t k nodes) ns) finds = (
    names_compound (place ++ i ∷ []) t k nodes (finds_first place i (compound t k nodes) ns finds),
    are_named place (suc i) ns (finds_later place i (compound t k nodes) ns finds),
  )

  -- an action line has an instance
  action_has : (line : ActionLine) → IsIn line file.actions → Has naming problem file (verdict.action_line line)
  action_has line i =
      let (p, g, there, stands, is, named) = line_has_leaf naming problem trees id_at s.linearisation file.actions shadow.actions line i in
      let (a, acts) = tree_of_place problem trees p (leaf g) solves.are_trees stands in
      (g, a, named, acts)

  -- so has a decomposition line
  decomposition_has : (line : DecompositionLine) → IsIn line file.decompositions → Has naming problem file (verdict.decomposition_line line)
  decomposition_has line i =
      let (p, there, is) = compound_of_line line i in
      let (network, found, children, inner) = tree_of_place problem trees p (compound is.task is.number is.nodes) solves.are_trees is.stands in
      let finds : Finds p 0 is.nodes = λ k. at_child trees p is.task is.number is.nodes (0 + k) is.stands ∙ ap (child_at is.nodes) (let e : 0 + k ≡ k = omega arith in e) in (
        is.task,
        is.number,
        network,
        is.named,
        found,
        is.method,
        (
          ids_of id_at (shown_from p 0 is.nodes),
          is.children,
          subst (λ c. AreNamed naming file (ids_of id_at (shown_from p 0 is.nodes)) (subtasks c)) children (are_named p 0 is.nodes finds),
        ),
      )

  -- and the root line
  roots_have : Has naming problem file (root_line file.roots)
  roots_have = (
    s.number,
    solves.network,
    solves.is_initial,
    (
      ids_of id_at (shown_from [] 0 trees),
      shadow.roots,
      subst (λ c. AreNamed naming file (ids_of id_at (shown_from [] 0 trees)) (subtasks c)) solves.are_roots
          (are_named [] 0 trees (λ k. ap (child_at trees) (let e : 0 + k ≡ k = omega arith in e))),
    ),
  )

  -- so have all action lines
  all_actions : (lines : List ActionLine) → ((line : ActionLine) → IsIn line lines → IsIn line file.actions) → AllByRecursion (Has naming problem file) (action_lines lines)
  all_actions [] within = tt
  all_actions (l ∷ lines) within = (action_has l (within l (inl refl)), all_actions lines (λ x i. within x (inr i)))

  -- and all decomposition lines
  all_decompositions : (lines : List DecompositionLine) → ((line : DecompositionLine) → IsIn line lines → IsIn line file.decompositions)
      → AllByRecursion (Has naming problem file) (decomposition_lines lines)
  all_decompositions [] within = tt
  all_decompositions (l ∷ lines) within = (decomposition_has l (within l (inl refl)), all_decompositions lines (λ x i. within x (inr i)))

  -- so all lines have
  all_have : AllHave naming problem file
  all_have =
      all_join (Has naming problem file) (action_lines file.actions ++ decomposition_lines file.decompositions) (root_line file.roots ∷ [])
      (all_join (Has naming problem file) (action_lines file.actions) (decomposition_lines file.decompositions) (all_actions file.actions (λ x i. i))
      (all_decompositions file.decompositions (λ x i. i)))
      (roots_have, tt)

  -- ## A forest

  -- a leaf has an id
  leaf_id : (p : Place) (g : GroundTask) → node_at trees p ≡ Some (leaf g) → HasId (node_at trees p)
  leaf_id p g e = subst HasId (sym e) tt

  -- a line's compound node has an id
  compound_id : (p : Place) (line : DecompositionLine) → IsDecompositionLine naming trees id_at p line → HasId (node_at trees p)
  compound_id p line is = subst HasId (sym is.stands) tt

  -- no two action lines have one id
  actions_once : (qs : List Place) (lines : List ActionLine) → AreActionLines naming trees id_at qs lines → IsWithoutRepeats qs → IsWithoutRepeats (action_ids lines)
  actions_once qs lines end d = tt
  actions_once qs lines (action_line p ps g line others is id named more) d = (
    (λ i.
        let (other, there, same) = action_of_id line.id others i in
        let (q, h, later, stands, is_other, names) = line_has_leaf naming problem trees id_at ps others more other there in
        let one = shadow.one_to_one q p (leaf_id q h stands) (leaf_id p g is) (sym is_other ∙ same ∙ id) in
        d.0 (subst (λ r. IsIn r ps) one later)),
    actions_once ps others more d.1,
  )
  actions_once qs lines (no_line p ps others is more) d = actions_once ps others more d.1

  -- nor have two decomposition lines
  decompositions_once : (ps : List Place) (lines : List DecompositionLine) → AreDecompositionLines naming trees id_at ps lines → IsWithoutRepeats ps
      → IsWithoutRepeats (decomposition_ids lines)
  decompositions_once [] lines all d = subst (λ l. IsWithoutRepeats (decomposition_ids l)) (sym all) tt
  decompositions_once (p ∷ ps) lines (left, line, right, e, is, more) d =
      let below = decompositions_once ps (left ++ right) more d.1 in
      let new : IsIn line.id (decomposition_ids left ++ decomposition_ids right) → ⊥ = λ i.
      (let (other, there, same) = decomposition_of_id line.id (left ++ right) (subst (IsIn line.id) (sym (ids_join left right)) i) in
      let (q, later, is_other) = line_has_compound naming problem trees id_at ps (left ++ right) more other there in
      let one = shadow.one_to_one q p (compound_id q other is_other) (compound_id p line is) (sym is_other.id ∙ same ∙ is.id) in
      d.0 (subst (λ r. IsIn r ps) one later)) in
      subst IsWithoutRepeats (sym (ap decomposition_ids e ∙ ids_join left (line ∷ right)))
      (distinct_with line.id (decomposition_ids left) (decomposition_ids right) (subst IsWithoutRepeats (ids_join left right) below) new)

  -- the place of a node with this id
  record PlaceOf (id : ℕ) : Type 0 where
    place : Place
    has_id : HasId (node_at trees place)
    is : id_at place ≡ id

  -- an action line's place
  action_place : (id : ℕ) → IsIn id (action_ids file.actions) → (p : Place) × (g : GroundTask) × (node_at trees p ≡ Some (leaf g)) × (id_at p ≡ id)
  action_place id i =
      let (line, there, same) = action_of_id id file.actions i in
      let (p, g, later, stands, is, names) = line_has_leaf naming problem trees id_at s.linearisation file.actions shadow.actions line there in
      (p, g, stands, sym is ∙ same)

  -- a decomposition line's place
  decomposition_place : (id : ℕ) → IsIn id (decomposition_ids file.decompositions)
      → (p : Place) × (t : GroundTask) × (k : ℕ) × (nodes : Nodes) × (node_at trees p ≡ Some (compound t k nodes)) × (id_at p ≡ id)
  decomposition_place id i =
      let (line, there, same) = decomposition_of_id id file.decompositions i in
      let (p, later, is) = compound_of_line line there in
      (p, is.task, is.number, is.nodes, is.stands, sym is.id ∙ same)

  -- the ids of decomposition lines have no repeats
  decomposition_ids_once : IsWithoutRepeats (decomposition_ids file.decompositions)
  decomposition_ids_once = decompositions_once (compounds_from [] 0 trees) file.decompositions shadow.decompositions (all_compounds_distinct [] 0 trees)

  -- no id is defined twice
  defined_once : IsWithoutRepeats (defined_ids file)
  defined_once =
      distinct_join (action_ids file.actions) (decomposition_ids file.decompositions)
      (actions_once s.linearisation file.actions shadow.actions (distinct_arranged s.linearisation _ solves.is_rearrangement (all_primitives_distinct [] 0 trees)))
      decomposition_ids_once
      (λ x i j.
      let (p, g, leaf_there, is_p) = action_place x i in
      let (q, t, k, nodes, compound_there, is_q) = decomposition_place x j in
      let one = shadow.one_to_one p q (leaf_id p g leaf_there) (subst HasId (sym compound_there) tt) (is_p ∙ sym is_q) in
      let both : Some (leaf g) ≡ Some (compound t k nodes) = sym leaf_there ∙ ap (node_at trees) one ∙ compound_there in
      absurd cc)

  -- each defined id has a place
  place_of_defined : (id : ℕ) → IsIn id (defined_ids file) → PlaceOf id
  place_of_defined id i = elim (in_split id (action_ids file.actions) (decomposition_ids file.decompositions) i) [
    | inl j ↦ (let (p, g, stands, is) = action_place id j in record { place = p; has_id = leaf_id p g stands; is = is })
    | inr j ↦ (let (p, t, k, nodes, stands, is) = decomposition_place id j in record { place = p; has_id = subst HasId (sym stands) tt; is = is })
  ]

  -- and each node with an id a line
  defined_of_place : (p : Place) → HasId (node_at trees p) → IsIn (id_at p) (defined_ids file)
  defined_of_place p h = by (node_at trees p) refl h
    where
      by : (m : Option Node) → node_at trees p ≡ m → HasId m → IsIn (id_at p) (defined_ids file)
      by None e g = absurd g
      by (Some (leaf g)) e h =
          let (line, there, is, named) = leaf_line p g e in
          in_left (id_at p) (action_ids file.actions) (decomposition_ids file.decompositions) (subst (λ x. IsIn x (action_ids file.actions)) is (action_id_listed line file.actions there))
      by (Some (step literals)) e h = absurd h
      by (Some (compound t k nodes)) e h =
          let (line, there, is) = compound_line p t k nodes e in
          in_right (id_at p) (action_ids file.actions) (decomposition_ids file.decompositions)
          (subst (λ x. IsIn x (decomposition_ids file.decompositions)) is.id (id_listed line file.decompositions there))

  -- the roots are the ids of the trees
  listed_roots : IsRearrangementOf file.roots (map (λ a. id_at ([] ++ a ∷ [])) (subtask_positions 0 (roots trees)))
  listed_roots = subst (IsRearrangementOf file.roots) (shown_ids id_at [] 0 trees) shadow.roots

  -- a line's children are those of its node
  listed_children : (p : Place) (line : DecompositionLine) (is : IsDecompositionLine naming trees id_at p line)
      → IsRearrangementOf line.children (map (λ a. id_at (p ++ a ∷ [])) (subtask_positions 0 (roots is.nodes)))
  listed_children p line is = subst (IsRearrangementOf line.children) (shown_ids id_at p 0 is.nodes) is.children

  -- a subtask's node has an id
  child_has_id : (p : Place) (line : DecompositionLine) (is : IsDecompositionLine naming trees id_at p line) (a : ℕ) → IsIn a (subtask_positions 0 (roots is.nodes))
      → HasId (node_at trees (p ++ a ∷ []))
  child_has_id p line is a i = subst HasId (sym (at_child trees p is.task is.number is.nodes a is.stands)) (has_id_at is.nodes a i)

  -- a listed id is that of a root or of a child
  root_place : (id : ℕ) → IsIn id file.roots → (a : ℕ) × HasId (node_at trees (a ∷ [])) × (id_at (a ∷ []) ≡ id)
  root_place id i =
      let (a, there, same) = in_map (λ a. id_at ([] ++ a ∷ [])) id (subtask_positions 0 (roots trees)) (in_rearranged id file.roots _ listed_roots i) in
      (a, has_id_at trees a there, sym same)

  -- a child's place
  child_place : (id : ℕ) (line : DecompositionLine) → IsIn line file.decompositions → IsIn id line.children
      → (p : Place) × (a : ℕ) × IsDecompositionLine naming trees id_at p line × HasId (node_at trees (p ++ a ∷ [])) × (id_at (p ++ a ∷ []) ≡ id)
  child_place id line there i =
      let (p, later, is) = compound_of_line line there in
      let (a, below, same) = in_map (λ a. id_at (p ++ a ∷ [])) id (subtask_positions 0 (roots is.nodes)) (in_rearranged id line.children _ (listed_children p line is) i) in
      (p, a, is, child_has_id p line is a below, sym same)

  -- no root is listed twice
  roots_once : IsWithoutRepeats file.roots
  roots_once =
      distinct_arranged file.roots _ listed_roots
      (mapped_distinct (λ a. id_at ([] ++ a ∷ [])) (subtask_positions 0 (roots trees)) (subtasks_distinct 0 (roots trees))
      (λ a b i j e. same_last [] a b (shadow.one_to_one (a ∷ []) (b ∷ []) (has_id_at trees a i) (has_id_at trees b j) e)))

  -- no line lists a child twice
  line_once : (line : DecompositionLine) → IsIn line file.decompositions → IsWithoutRepeats line.children
  line_once line there =
      let (p, later, is) = compound_of_line line there in
      distinct_arranged line.children _ (listed_children p line is)
      (mapped_distinct (λ a. id_at (p ++ a ∷ [])) (subtask_positions 0 (roots is.nodes)) (subtasks_distinct 0 (roots is.nodes))
      (λ a b i j e. same_last p a b (shadow.one_to_one (p ++ a ∷ []) (p ++ b ∷ []) (child_has_id p line is a i) (child_has_id p line is b j) e)))

  -- nor do two lines
  children_once : (lines : List DecompositionLine) → IsWithoutRepeats (decomposition_ids lines) → ((line : DecompositionLine) → IsIn line lines → IsIn line file.decompositions)
      → IsWithoutRepeats (all_children lines)
  children_once [] d within = tt
  children_once (l ∷ lines) d within =
      distinct_join l.children (all_children lines) (line_once l (within l (inl refl))) (children_once lines d.1 (λ x i. within x (inr i)))
      (λ x i j.
      let (other, there, below) = child_of_lines x lines j in
      let (p, a, is, has, same) = child_place x l (within l (inl refl)) i in
      let (q, b, is_other, has_other, same_other) = child_place x other (within other (inr there)) below in
      let one = same_above p q a b (shadow.one_to_one (p ++ a ∷ []) (q ++ b ∷ []) has has_other (same ∙ sym same_other)) in
      d.0 (subst (λ k. IsIn k (decomposition_ids lines)) (is_other.id ∙ ap id_at (sym one) ∙ sym is.id) (id_listed other lines there)))

  -- no id is listed twice
  listed_distinct : IsWithoutRepeats (listed_ids file)
  listed_distinct =
      distinct_join file.roots (all_children file.decompositions) roots_once (children_once file.decompositions decomposition_ids_once (λ x i. i))
      (λ x i j.
      let (a, has, same) = root_place x i in
      let (line, there, below) = child_of_lines x file.decompositions j in
      let (p, b, is, has_child, same_child) = child_place x line there below in
      let one = same_above [] p a b (shadow.one_to_one (a ∷ []) (p ++ b ∷ []) has has_child (same ∙ sym same_child)) in
      let nowhere : None ≡ Some (compound is.task is.number is.nodes) = ap (node_at trees) one ∙ is.stands in
      cc)

  -- each defined id is listed
  to_listed : (id : ℕ) → IsIn id (defined_ids file) → IsIn id (listed_ids file)
  to_listed id i =
      let o = place_of_defined id i in
      subst (λ x. IsIn x (listed_ids file)) o.is (by o.place (parent_of o.place trees o.has_id))
    where
      by : (p : Place) → Parent trees p → IsIn (id_at p) (listed_ids file)
      by p (a_root a is there) =
          in_left (id_at p) file.roots (all_children file.decompositions)
          (lists.in_arranged (id_at p) file.roots _ listed_roots
          (subst (λ q. IsIn (id_at q) (map (λ a. id_at ([] ++ a ∷ [])) (subtask_positions 0 (roots trees)))) (sym is) (in_mapped (λ a. id_at ([] ++ a ∷ [])) a _ there)))
      by p (a_child above a t k nodes is stands there) =
          let (line, listed, found) = compound_line above t k nodes stands in
          in_right (id_at p) file.roots (all_children file.decompositions)
          (child_listed (id_at p) line file.decompositions listed (is_child p above a t k nodes is stands there line found))
        where
          is_child : (p above : Place) (a : ℕ) (t : GroundTask) (k : ℕ) (nodes : Nodes) → p ≡ above ++ a ∷ [] → node_at trees above ≡ Some (compound t k nodes)
              → IsIn a (subtask_positions 0 (roots nodes)) → (line : DecompositionLine) → IsDecompositionLine naming trees id_at above line → IsIn (id_at p) line.children
          is_child p above a t k nodes is stands there line found =
              let both : Some (compound t k nodes) ≡ Some (compound found.task found.number found.nodes) = sym stands ∙ found.stands in
              let inner : nodes ≡ found.nodes = cc in
              lists.in_arranged (id_at p) line.children _ (listed_children above line found)
              (subst (λ q. IsIn (id_at q) (map (λ b. id_at (above ++ b ∷ [])) (subtask_positions 0 (roots found.nodes)))) (sym is)
              (in_mapped (λ b. id_at (above ++ b ∷ [])) a _ (subst (λ ns. IsIn a (subtask_positions 0 (roots ns))) inner there)))

  -- and each listed id defined
  from_listed : (id : ℕ) → IsIn id (listed_ids file) → IsIn id (defined_ids file)
  from_listed id i = elim (in_split id file.roots (all_children file.decompositions) i) [
    | inl j ↦ (let (a, has, same) = root_place id j in subst (λ x. IsIn x (defined_ids file)) same (defined_of_place (a ∷ []) has))
    | inr j ↦ (let (line, there, below) = child_of_lines id file.decompositions j in
        let (p, a, is, has, same) = child_place id line there below in subst (λ x. IsIn x (defined_ids file)) same (defined_of_place (p ++ a ∷ []) has))
  ]

  -- each node is reached, the roots first
  reached_by : (n : ℕ) (p : Place) → length p < n → HasId (node_at trees p) → IsReached file (id_at p)
  reached_by zero p low h = absurd (omega arith)
  reached_by (suc n) p low h = by (parent_of p trees h) (reached_by n)
    where
      by : Parent trees p → ((q : Place) → length q < n → HasId (node_at trees q) → IsReached file (id_at q)) → IsReached file (id_at p)
      by (a_root a is there) more =
          from_root (id_at p)
          (lists.in_arranged (id_at p) file.roots _ listed_roots
          (subst (λ q. IsIn (id_at q) (map (λ a. id_at ([] ++ a ∷ [])) (subtask_positions 0 (roots trees)))) (sym is) (in_mapped (λ a. id_at ([] ++ a ∷ [])) a _ there)))
      by (a_child above a t k nodes is stands there) more =
          let (line, listed, found) = compound_line above t k nodes stands in
          let both : Some (compound t k nodes) ≡ Some (compound found.task found.number found.nodes) = sym stands ∙ found.stands in
          let inner : nodes ≡ found.nodes = cc in
          let long = ap length is ∙ length-append above (a ∷ []) in
          from_parent (id_at p) line listed (subst (IsReached file) (sym found.id) (more above (omega arith) (subst HasId (sym stands) tt)))
          (lists.in_arranged (id_at p) line.children _ (listed_children above line found)
          (subst (λ q. IsIn (id_at q) (map (λ b. id_at (above ++ b ∷ [])) (subtask_positions 0 (roots found.nodes)))) (sym is)
          (in_mapped (λ b. id_at (above ++ b ∷ [])) a _ (subst (λ ns. IsIn a (subtask_positions 0 (roots ns))) inner there))))

  -- so the lines are a forest
  is_forest : IsForest file
  is_forest = record {
    defined_once = defined_once;
    listed_once = same_members (defined_ids file) (listed_ids file) defined_once listed_distinct to_listed from_listed;
    reached = λ id i. let o = place_of_defined id i in subst (IsReached file) o.is (reached_by (suc (length o.place)) o.place (omega arith) o.has_id);
  }

-- an accepted file is a forest of lines with instances that run to the goal
pub accepted_proper : (naming : Naming) (problem : Problem) (file : PlanFile) → IsAccepted naming problem file
    → IsForest file × AllHave naming problem file × Ends naming problem file true
accepted_proper naming problem file a = (
  is_forest naming problem file a.solution a.solves a.shadow,
  all_have naming problem file a.solution a.solves a.shadow,
  line_ends naming problem file a.solution a.solves a.shadow,
)
