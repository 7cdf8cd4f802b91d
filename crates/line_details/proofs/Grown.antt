-- Lines that have room have a tree of the instances of their details, with each step in its gap.
use Rattle.std.proofs.Common.{◌≡◌, ℕ, zero, suc, ◌+◌, ◌≤◌, ◌<◌, cond, eqb, List, [], ◌∷◌, ◌++◌, map, Option, Some, None, true, slice_get, option_and_then, inl, inr, sym, refl, ap, ap₂, ◌∙◌, subst, arith}
use Rattle.std.proofs.lemmas.Bool.{eq-eqb, ne_eqb}
use Rattle.htn_model.specs.State.{State}
use Rattle.htn_model.specs.Literal.{Literal, Action, holds}
use Rattle.htn_model.specs.Problem.{GroundTask, Problem, Network, Child, precondition, action, task, perform_action}
use Rattle.htn_model.specs.Tree.{Node, leaf, step, compound, Nodes, no_nodes, node, Place, child_at, node_below, node_at, order_of_network}
use Rattle.htn_model.specs.PlanFile.{ActionLine, DecompositionLine, PlanFile, Naming, IsRearrangementOf, IsIn, IsWithoutRepeats, IsForest}
use Rattle.htn_model.specs.Verdict.{perform_line}
use Rattle.htn_model.specs.Fits.{PlanTree, action_at, decomposition, PlanTrees, no_plans, plan, subtask_positions, AreSpans}
use Rattle.htn_model.specs.Placement.{Slots}
use Rattle.htn_model.specs.Shown.{ShowsTree, ShowTrees, LinesRun}
use Rattle.htn_model.proofs.Ascending.{at_in}
use Rattle.htn_model.proofs.Decoupled.{nothing_below, sits_child}
use Rattle.htn_model.proofs.Rearranged.{in_rearranged, in_arranged, map_rearranged, distinct_arranged}
use Rattle.htn_model.proofs.Laid.{IsSubtask, subtask_at, in_subtasks, subtasks_distinct, Laid, id_below, with_id, AllMarks, slots_of, ids_from, nodes_from, IsLaid, AreLaid, Forest}
use Rattle.htn_model.proofs.Marked.{one_line, one_index, kinds_apart, decompositions_distinct, actions_distinct, root_of_child}
use Rattle.line_details.specs.Details.{Details}
use Rattle.line_details.specs.Certificate.{Spans, AllSpans, IsPlaced, ArePlaced, HasRoomBy, IsCertificate}

-- functions that agree on the members of a list make the same of it
map_same : {X Y : Type 0} (f g : X → Y) (xs : List X) → ((x : X) → IsIn x xs → f x ≡ g x) → map f xs ≡ map g xs
map_same f g [] same = refl
map_same f g (x ∷ xs) same = ap₂ ◌∷◌ (same x (inl refl)) (map_same f g xs (λ y i. same y (inr i)))

-- the id of the node above marks nothing below it
marks_with : (naming : Naming) (file : PlanFile) (slots : Slots) (ids : Place → ℕ) (id i : ℕ) (nodes : Nodes)
    → AllMarks naming file slots ids i nodes → AllMarks naming file slots (with_id id ids) i nodes
marks_with naming file slots ids id i no_nodes marks = marks
marks_with naming file slots ids id i (node n ns) marks = (marks.0, marks_with naming file slots ids id (suc i) ns marks.1)

-- the literals of a step
abbrev literals_of : Option Child → List Literal
literals_of None = []
literals_of (Some (precondition literals)) = literals
literals_of (Some (action g)) = []
literals_of (Some (task t)) = []

-- what was laid at the position of a child
laid_child : (f : ℕ → Laid) (i : ℕ) (children : List Child) (k : ℕ) (m : Node) → child_at (nodes_from f i children) k ≡ Some m
    → (c : Child) × (slice_get children k ≡ Some c) × (m ≡ (f (i + k)).node)
laid_child f i [] k m e = absurd cc
laid_child f i (c ∷ children) zero m e =
    let same : (f i).node ≡ m = cc in let w : i ≡ i + 0 = omega arith in
    (c, refl, sym same ∙ ap (λ j. (f j).node) w)
laid_child f i (c ∷ children) (suc k) m e =
    let (d, there, same) = laid_child f (suc i) children k m e in let w : suc i + k ≡ i + suc k = omega arith in
    (d, there, same ∙ ap (λ j. (f j).node) w)

-- ## Trees that agree with details

module _ (details : Details) where
  -- a compound node's number and the slots of its steps agree with the details of its line
  pub record AgreesAt (slots : Slots) (ids : Place → ℕ) (q : Place) (n : ℕ) (nodes : Nodes) : Type 0 where
    pub number : details.number (ids q) ≡ n
    pub gap : (a : ℕ) (literals : List Literal) → child_at nodes a ≡ Some (step literals) → details.gap (ids q) a ≡ slots (q ++ a ∷ [])

  -- so is each one at or below a node
  abbrev AgreeBelow : Slots → (Place → ℕ) → Node → Type 0
  AgreeBelow slots ids n =
      (q : Place) (t : GroundTask) (number : ℕ) (nodes : Nodes) → node_below (Some n) q ≡ Some (compound t number nodes) → AgreesAt slots ids q number nodes

  -- so is each one of these trees
  abbrev pub Agree : Slots → (Place → ℕ) → Nodes → Type 0
  Agree slots ids trees =
      (q : Place) (t : GroundTask) (number : ℕ) (nodes : Nodes) → node_at trees q ≡ Some (compound t number nodes) → AgreesAt slots ids q number nodes

  -- nothing is compound at or below a leaf
  leaf_agrees : (slots : Slots) (ids : Place → ℕ) (g : GroundTask) → AgreeBelow slots ids (leaf g)
  leaf_agrees slots ids g [] t number nodes e = absurd cc
  leaf_agrees slots ids g (i ∷ q) t number nodes e = let none = nothing_below q in absurd cc

  -- nor at or below a step
  step_agrees : (slots : Slots) (ids : Place → ℕ) (literals : List Literal) → AgreeBelow slots ids (step literals)
  step_agrees slots ids literals [] t number nodes e = absurd cc
  step_agrees slots ids literals (i ∷ q) t number nodes e = let none = nothing_below q in absurd cc

module _ (naming : Naming) (problem : Problem) (file : PlanFile) (states : ℕ → State) (details : Details) (all_spans : AllSpans) where
  -- a tree that stands for the child, sits between the gaps, has marks, and agrees with the details
  record Stands (c : Child) (g h : ℕ) (y : Laid) : Type 0 where
    laid : IsLaid naming problem file states c g h y
    agree : AgreeBelow details y.slots y.ids y.node

  -- trees for a network, which agree with the details
  pub record Grown (network : Network) (ids : List ℕ) (c : Spans) : Type 0 where
    pub forest : Forest naming problem file states network.children ids c.start c.finish
    pub agree : Agree details forest.slots forest.ids forest.nodes

  -- trees for all children, from position i on
  laid_from : (f : ℕ → Laid) (children : List Child) (start finish : ℕ → ℕ) (i : ℕ)
      → ((k : ℕ) (c : Child) → slice_get children k ≡ Some c → IsLaid naming problem file states c (start (i + k)) (finish (i + k)) (f (i + k)))
      → AreLaid naming problem file states children start finish (nodes_from f i children) (slots_of f) (ids_from f) i
  laid_from f [] start finish i each = record { are_roots = refl; trees = tt; sit = tt; marks = tt }
  laid_from f (c ∷ children) start finish i each =
      let here : IsLaid naming problem file states c (start i) (finish i) (f i) =
      subst (λ k. IsLaid naming problem file states c (start k) (finish k) (f k)) (let e : i + 0 ≡ i = omega arith in e) (each 0 c refl) in
      let more = laid_from f children start finish (suc i)
      (λ k d e. subst (λ m. IsLaid naming problem file states d (start m) (finish m) (f m)) (let same : i + suc k ≡ suc i + k = omega arith in same) (each (suc k) d e)) in
      record {
        are_roots = ap₂ ◌∷◌ here.is_root more.are_roots;
        trees = (here.tree, more.trees);
        sit = (here.sits, more.sit);
        marks = (here.marks, more.marks);
      }

  -- ## One tree at each position

  -- the step at a position, in its gap
  abbrev base : List Child → Spans → ℕ → Laid
  base children c k = record { node = step (literals_of (slice_get children k)); slots = λ q. c.start k; ids = λ q. 0 }

  -- a tree at each of these positions, with the lines' ids, and elsewhere a step
  record Filled (children : List Child) (c : Spans) (positions ids : List ℕ) : Type 0 where
    at : ℕ → Laid
    each : (k : ℕ) → IsIn k positions → (d : Child) × (slice_get children k ≡ Some d) × Stands d (c.start k) (c.finish k) (at k)
    others : (k : ℕ) → (IsIn k positions → ⊥) → at k ≡ base children c k
    ids_are : ids ≡ map (λ k. (at k).ids []) positions

  -- at no positions
  fill_none : (children : List Child) (c : Spans) (positions : List ℕ) → positions ≡ [] → Filled children c positions []
  fill_none children c positions none = record {
    at = base children c;
    each = λ k i. absurd (subst (IsIn k) none i);
    others = λ k h. refl;
    ids_are = sym (ap (map (λ k. (base children c k).ids [])) none);
  }

  -- at one position more
  fill_more : (children : List Child) (c : Spans) (a : ℕ) (positions : List ℕ) (id : ℕ) (ids : List ℕ) → IsWithoutRepeats (a ∷ positions)
      → (y : Laid) → (d : Child) → slice_get children a ≡ Some d → Stands d (c.start a) (c.finish a) y → y.ids [] ≡ id
      → Filled children c positions ids → Filled children c (a ∷ positions) (id ∷ ids)
  fill_more children c a positions id ids distinct y d there stands is more =
      let at : ℕ → Laid = λ b. cond (eqb a b) y (more.at b) in
      let here : at a ≡ y = ap (λ x. cond x y (more.at a)) (eq-eqb a a refl) in
      let other : (b : ℕ) → (a ≡ b → ⊥) → at b ≡ more.at b = λ b h. ap (λ x. cond x y (more.at b)) (ne_eqb a b h) in
      let later : (b : ℕ) → IsIn b positions → at b ≡ more.at b = λ b i. other b (λ same. distinct.0 (subst (λ k. IsIn k positions) (sym same) i)) in
      record {
        at = at;
        each = λ k i. elim i [
          | inl same ↦ subst (λ b. (d : Child) × (slice_get children b ≡ Some d) × Stands d (c.start b) (c.finish b) (at b)) (sym same)
              (d, there, subst (Stands d (c.start a) (c.finish a)) (sym here) stands)
          | inr j ↦ (let m = more.each k j in (m.0, m.1, subst (Stands m.0 (c.start k) (c.finish k)) (sym (later k j)) m.2))
        ];
        others = λ k h. other k (λ same. h (inl (sym same))) ∙ more.others k (λ i. h (inr i));
        ids_are = ap₂ ◌∷◌ (sym is ∙ ap (λ l. l.ids []) (sym here))
            (more.ids_are ∙ map_same (λ k. (more.at k).ids []) (λ k. (at k).ids []) positions (λ k i. ap (λ l. l.ids []) (sym (later k i))));
      }

  -- ## A network's trees

  module _ (network : Network) (ids : List ℕ) (c : Spans) (places : HasRoomBy naming problem file states details all_spans network ids c)
      (filled : Filled network.children c c.positions ids) where
    -- a subtask has a tree
    subtask_stands : (k : ℕ) (d : Child) → slice_get network.children k ≡ Some d → IsSubtask d → Stands d (c.start k) (c.finish k) (filled.at k)
    subtask_stands k d e h =
        let i = in_arranged k c.positions _ places.each_once
        (subst (λ m. IsIn m (subtask_positions 0 network.children)) (let w : 0 + k ≡ k = omega arith in w) (in_subtasks 0 network.children k d e h)) in
        let found = filled.each k i in
        let there = found.1 in
        let same : found.0 ≡ d = cc in
        subst (λ x. Stands x (c.start k) (c.finish k) (filled.at k)) same found.2

    -- a step's position is no subtask's
    step_apart : (k : ℕ) (literals : List Literal) → slice_get network.children k ≡ Some (precondition literals) → IsIn k c.positions → ⊥
    step_apart k literals e i =
        let s = subtask_at 0 network.children k (in_rearranged k c.positions _ places.each_once i) in
        let at_k = s.is in
        let there : slice_get network.children k ≡ Some s.child = subst (λ m. slice_get network.children m ≡ Some s.child) (let w : s.offset ≡ k = omega arith in w) s.stands in
        let same : s.child ≡ precondition literals = cc in
        subst IsSubtask same s.is_subtask

    -- a step stands in its gap
    step_stands : (k : ℕ) (literals : List Literal) → slice_get network.children k ≡ Some (precondition literals)
        → Stands (precondition literals) (c.start k) (c.finish k) (filled.at k)
    step_stands k literals e =
        let are : literals_of (slice_get network.children k) ≡ literals = ap literals_of e in
        let forward = places.spans.forward k in
        subst (Stands (precondition literals) (c.start k) (c.finish k)) (sym (filled.others k (step_apart k literals e)))
        (record {
          laid = record {
            is_root = ap precondition are;
            tree = tt;
            sits = (omega arith, forward, subst (λ l. holds (states (c.start k)) l ≡ true) (sym are) (places.steps k literals e).1);
            marks = tt;
          };
          agree = step_agrees details _ _ _;
        })

    -- so each child has a tree
    child_stands : (k : ℕ) (d : Child) → slice_get network.children k ≡ Some d → Stands d (c.start k) (c.finish k) (filled.at k)
    child_stands k (precondition literals) e = step_stands k literals e
    child_stands k (action g) e = subtask_stands k (action g) e tt
    child_stands k (task t) e = subtask_stands k (task t) e tt

    -- the trees as a forest
    forest_of : Forest naming problem file states network.children ids c.start c.finish
    forest_of = record {
      nodes = nodes_from filled.at 0 network.children;
      slots = slots_of filled.at;
      ids = ids_from filled.at;
      laid = laid_from filled.at network.children c.start c.finish 0
          (λ k d e. subst (λ m. IsLaid naming problem file states d (c.start m) (c.finish m) (filled.at m)) (let w : k ≡ 0 + k = omega arith in w) (child_stands k d e).laid);
      listed = subst (λ xs. IsRearrangementOf xs (map (id_below (ids_from filled.at)) (subtask_positions 0 network.children))) (sym filled.ids_are)
          (map_rearranged (id_below (ids_from filled.at)) c.positions (subtask_positions 0 network.children) places.each_once);
    }

    -- which agree with the details
    all_agree : Agree details (slots_of filled.at) (ids_from filled.at) (nodes_from filled.at 0 network.children)
    all_agree [] t number nodes e = absurd cc
    all_agree (i ∷ q) t number nodes e = by (child_at (nodes_from filled.at 0 network.children) i) refl e
      where
        by : (m : Option Node) → child_at (nodes_from filled.at 0 network.children) i ≡ m → node_below m q ≡ Some (compound t number nodes)
            → AgreesAt details (slots_of filled.at) (ids_from filled.at) (i ∷ q) number nodes
        by None here below = let none = nothing_below q in absurd cc
        by (Some m) here below =
            let (d, there, same) = laid_child filled.at 0 network.children i m here in
            let w : 0 + i ≡ i = omega arith in
            let x = (child_stands i d there).agree q t number nodes
            (subst (λ n. node_below (Some n) q ≡ Some (compound t number nodes)) (same ∙ ap (λ j. (filled.at j).node) w) below) in
            record { number = x.number; gap = x.gap }

    -- trees for the network
    grow : Grown network ids c
    unfolding forest_of
    grow = record { forest = forest_of; agree = all_agree }

  -- a step among the trees of a network is the network's
  step_child : (network : Network) (ids : List ℕ) (c : Spans) (grown : Grown network ids c)
      → (a : ℕ) (literals : List Literal) → child_at grown.forest.nodes a ≡ Some (step literals) → slice_get network.children a ≡ Some (precondition literals)
  step_child network ids c grown a literals e =
      let f = grown.forest in
      subst (λ cs. slice_get cs a ≡ Some (precondition literals)) f.laid.are_roots (root_of_child f.nodes a (step literals) e)

  -- and stands where it starts
  step_starts : (network : Network) (ids : List ℕ) (c : Spans) → HasRoomBy naming problem file states details all_spans network ids c → (grown : Grown network ids c)
      → (a : ℕ) (literals : List Literal) → child_at grown.forest.nodes a ≡ Some (step literals) → c.start a ≡ grown.forest.slots (a ∷ [])
  step_starts network ids c places grown a literals e =
      let f = grown.forest in
      let sits = sits_child problem states f.slots f.nodes c.start c.finish a (step literals) f.laid.sit e in
      let one = (places.steps a literals (step_child network ids c grown a literals e)).0 in
      let low = sits.0 in
      let high = sits.1 in
      omega arith

  -- ## The trees of lines

  module _ (is_forest : IsForest file) (runs : LinesRun naming problem file states) (certificate : IsCertificate naming problem file states details all_spans) where
    -- a line that names an action has one
    is_action : (g : GroundTask) (i : ℕ) (line : ActionLine) → slice_get file.actions i ≡ Some line → naming.named line.name line.arguments ≡ Some g
        → (a : Action) × (problem.action_of g ≡ Some a)
    is_action g i line there named = by (problem.action_of g) refl
      where
        by : (a : Option Action) → problem.action_of g ≡ a → (a : Action) × (problem.action_of g ≡ Some a)
        by None e =
            let does = runs.performs i line there in
            let none : perform_line naming problem (states i) line ≡ None =
            ap (λ n. perform_action (states i) (option_and_then problem.action_of n)) named ∙ ap (perform_action (states i)) e in
            absurd cc
        by (Some a) e = (a, e)

    -- an action line is placed as the action that it shows
    placed_action : (t : GroundTask) (i id g h : ℕ) (c : Child) → ShowsTree naming file id (action_at t i) → IsPlaced naming problem file states details all_spans c id g h
        → (c ≡ action t) × (g ≤ i) × (i < h)
    placed_action t i id g h (precondition literals) shows placed = absurd placed
    placed_action t i id g h (action u) (line, there, is, named) (j, other, stands, is_other, other_named, low, high) =
        let index : j ≡ i = one_index file.actions j i other line (actions_distinct file is_forest) stands there (is_other ∙ sym is) in
        let lines : Some other ≡ Some line = sym stands ∙ ap (slice_get file.actions) index ∙ there in
        let alike : other ≡ line = cc in
        let tasks : Some u ≡ Some t = sym other_named ∙ ap (λ l. naming.named l.name l.arguments) alike ∙ named in
        let same : u ≡ t = cc in
        (ap action same, omega arith, omega arith)
    placed_action t i id g h (task u) (line, there, is, named) (other, listed, is_other, other_named, low, high) =
        absurd (kinds_apart file is_forest line other (at_in line file.actions i there) listed (is ∙ sym is_other))

    -- a decomposition line is placed as the task that it shows
    placed_decomposition : (t : GroundTask) (line : DecompositionLine) (id g h : ℕ) (c : Child) → IsIn line file.decompositions → line.id ≡ id
        → naming.named line.task line.arguments ≡ Some t → IsPlaced naming problem file states details all_spans c id g h
        → (c ≡ task t) × (g ≤ (all_spans.line line.id).from) × ((all_spans.line line.id).to ≤ h)
    placed_decomposition t line id g h (precondition literals) listed is named placed = absurd placed
    placed_decomposition t line id g h (action u) listed is named (j, other, stands, is_other, other_named, low, high) =
        absurd (kinds_apart file is_forest other line (at_in other file.actions j stands) listed (is_other ∙ sym is))
    placed_decomposition t line id g h (task u) listed is named (other, there, is_other, other_named, low, high) =
        let alike : other ≡ line = one_line other line file.decompositions (decompositions_distinct file is_forest) there listed (is_other ∙ sym is) in
        let tasks : Some u ≡ Some t = sym other_named ∙ ap (λ l. naming.named l.task l.arguments) alike ∙ named in
        let same : u ≡ t = cc in
        (ap task same, subst (λ k. g ≤ (all_spans.line k).from) (sym is) low, subst (λ k. (all_spans.line k).to ≤ h) (sym is) high)

    -- a decomposition line's tree, from those of its children
    stand_line : (line : DecompositionLine) (id g h : ℕ) (c : Child) → IsIn line file.decompositions → line.id ≡ id
        → IsPlaced naming problem file states details all_spans c id g h
        → ((network : Network) (d : Spans) → HasRoomBy naming problem file states details all_spans network line.children d → Filled network.children d d.positions line.children)
        → (y : Laid) × (Stands c g h y × (y.ids [] ≡ id))
    stand_line line id g h c listed is placed fill =
        let l = certificate.lines line listed in
        let d = all_spans.line line.id in
        let (is_task, low, high) = placed_decomposition l.t line id g h c listed is l.named placed in
        let grown = grow l.network line.children d l.children (fill l.network d l.children) in
        let f = grown.forest in
        let spans : AreSpans l.network.order d.start d.finish g h = record {
          from = λ a. (let from = l.children.spans.from a in omega arith);
          to = λ a. (let to = l.children.spans.to a in omega arith);
          forward = l.children.spans.forward;
          ordered = l.children.spans.ordered;
        } in (
          record { node = compound l.t (details.number line.id) f.nodes; slots = f.slots; ids = with_id line.id f.ids },
          (
            record {
              laid = record {
                is_root = sym is_task;
                tree = (l.network, l.is_instance, f.laid.are_roots, f.laid.trees);
                sits = (d.start, d.finish, subst (λ o. AreSpans o d.start d.finish g h) (ap order_of_network (sym l.is_instance)) spans, f.laid.sit);
                marks = (
                  line,
                  listed,
                  refl,
                  l.named,
                  l.method,
                  subst (λ cs. IsRearrangementOf line.children (map (id_below f.ids) (subtask_positions 0 cs))) (sym f.laid.are_roots) f.listed,
                  marks_with naming file f.slots f.ids line.id 0 f.nodes f.laid.marks,
                );
              };
              agree = below l.t grown (λ a literals e.
                  l.gaps a literals (step_child l.network line.children d grown a literals e) ∙ step_starts l.network line.children d l.children grown a literals e);
            },
            is,
          ),
        )
      where
        below : {network : Network} (t : GroundTask) (grown : Grown network line.children (all_spans.line line.id))
            → ((a : ℕ) (literals : List Literal) → child_at grown.forest.nodes a ≡ Some (step literals) → details.gap line.id a ≡ grown.forest.slots (a ∷ []))
            → AgreeBelow details grown.forest.slots (with_id line.id grown.forest.ids) (compound t (details.number line.id) grown.forest.nodes)
        below t grown starts [] u number nodes e =
            let same : details.number line.id ≡ number = cc in
            let inner : grown.forest.nodes ≡ nodes = cc in
            record { number = same; gap = λ a literals there. starts a literals (ap (λ ns. child_at ns a) inner ∙ there) }
        below t grown starts (i ∷ q) u number nodes e = let x = grown.agree (i ∷ q) u number nodes e in record { number = x.number; gap = x.gap }

    mutual
      -- a plan tree whose line is placed has a tree there
      stand : (p : PlanTree) (id g h : ℕ) (c : Child) → ShowsTree naming file id p → IsPlaced naming problem file states details all_spans c id g h
          → (y : Laid) × (Stands c g h y × (y.ids [] ≡ id))
      stand (action_at t i) id g h c shows placed =
          let (is, low, high) = placed_action t i id g h c shows placed in
          let (line, there, same, named) = shows in (
            record { node = leaf t; slots = λ q. i; ids = λ q. id },
            (
              record {
                laid = record { is_root = sym is; tree = is_action t i line there named; sits = (low, high); marks = (line, there, same, named) };
                agree = leaf_agrees details _ _ t;
              },
              refl,
            ),
          )
      stand (decomposition t method plans) id g h c (line, listed, is, named, is_method, shows) placed =
          stand_line line id g h c listed is placed
          (λ network d places. fill plans d.positions line.children network.children d
          (distinct_arranged d.positions _ places.each_once (subtasks_distinct 0 network.children)) shows places.children)

      -- and so have plan trees, each at its position
      fill : (plans : PlanTrees) (positions ids : List ℕ) (children : List Child) (c : Spans) → IsWithoutRepeats positions → ShowTrees naming file ids plans
          → ArePlaced naming problem file states details all_spans children c positions ids → Filled children c positions ids
      fill no_plans positions [] children c distinct shows placed = fill_none children c positions placed
      fill no_plans positions (id ∷ ids) children c distinct shows placed = absurd cc
      fill (plan p plans) positions [] children c distinct shows placed = absurd shows
      fill (plan p plans) [] (id ∷ ids) children c distinct shows placed = absurd placed
      fill (plan p plans) (a ∷ positions) (id ∷ ids) children c distinct shows placed =
          let y = stand p id (c.start a) (c.finish a) placed.0.0 shows.0 placed.0.2 in
          fill_more children c a positions id ids distinct y.0 placed.0.0 placed.0.1 y.1.0 y.1.1
          (fill plans positions ids children c distinct.1 shows.1 placed.1)

    -- the roots have trees that agree with the details
    pub grown_roots : (plans : PlanTrees) → ShowTrees naming file file.roots plans → Grown certificate.network file.roots all_spans.root
    grown_roots plans shows =
        let places = certificate.roots in
        grow certificate.network file.roots all_spans.root places
        (fill plans all_spans.root.positions file.roots certificate.network.children all_spans.root
        (distinct_arranged all_spans.root.positions _ places.each_once (subtasks_distinct 0 certificate.network.children)) shows places.children)
