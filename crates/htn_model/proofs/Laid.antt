-- Lines that have room have a tree: its nodes carry the lines' ids, and its leaves and steps sit in the spans.
use Rattle.std.proofs.Common.{◌≡◌, ℕ, zero, suc, ◌+◌, ◌≤◌, Bool, true, cond, eqb, List, [], ◌∷◌, map, Option, Some, None, slice_get, option_and_then, inl, inr, sym, refl, ap, ap₂, ◌∙◌, subst, arith}
use Rattle.std.proofs.lemmas.Bool.{eq-eqb, ne_eqb}
use Rattle.htn_model.specs.State.{State}
use Rattle.htn_model.specs.Literal.{Literal, Action, holds}
use Rattle.htn_model.specs.Problem.{GroundTask, Problem, Child, precondition, action, task, perform_action}
use Rattle.htn_model.specs.Tree.{Node, leaf, step, compound, Nodes, no_nodes, node, Place, root, roots, order_of_network, IsTree, AreTrees}
use Rattle.htn_model.specs.PlanFile.{ActionLine, DecompositionLine, PlanFile, Naming, IsRearrangementOf, IsIn, IsWithoutRepeats}
use Rattle.htn_model.specs.Verdict.{perform_line}
use Rattle.htn_model.specs.Fits.{PlanTree, action_at, decomposition, PlanTrees, no_plans, plan, child_of, subtask_positions, StandAt, IsMatching, AreSpans, StepsFit, Fits, AllFit}
use Rattle.htn_model.specs.Placement.{Slots, Sits, AllSit}
use Rattle.htn_model.specs.Shown.{ShowsTree, ShowTrees, LinesRun}
use Rattle.htn_model.proofs.Rearranged.{in_rearranged, in_arranged, map_rearranged, distinct_arranged}

-- ## The positions of subtasks

-- a node of a network is an action or a task
abbrev pub IsSubtask : Child → Type 0
IsSubtask (precondition literals) = ⊥
IsSubtask (action g) = Unit {0}
IsSubtask (task t) = Unit {0}

-- the child at a position, counted from position i, is no step
pub record SubtaskAt (i : ℕ) (children : List Child) (a : ℕ) : Type 0 where
  pub offset : ℕ
  pub is : a ≡ i + offset
  pub child : Child
  pub stands : slice_get children offset ≡ Some child
  pub is_subtask : IsSubtask child

-- a subtask of the later children is one of all
later_subtask : (i : ℕ) (c : Child) (children : List Child) (a : ℕ) → SubtaskAt (suc i) children a → SubtaskAt i (c ∷ children) a
later_subtask i c children a s = record {
  offset = suc s.offset;
  is = (let e = s.is in omega arith);
  child = s.child;
  stands = s.stands;
  is_subtask = s.is_subtask;
}

-- the first child, if it is no step
first_subtask : (i : ℕ) (c : Child) (children : List Child) (a : ℕ) → IsSubtask c → a ≡ i → SubtaskAt i (c ∷ children) a
first_subtask i c children a h e = record { offset = 0; is = omega arith; child = c; stands = refl; is_subtask = h }

-- a position of the subtasks has one
pub subtask_at : (i : ℕ) (children : List Child) (a : ℕ) → IsIn a (subtask_positions i children) → SubtaskAt i children a
subtask_at i [] a h = absurd h
subtask_at i (precondition literals ∷ children) a h = later_subtask i (precondition literals) children a (subtask_at (suc i) children a h)
subtask_at i (action g ∷ children) a (inl e) = first_subtask i (action g) children a tt e
subtask_at i (action g ∷ children) a (inr h) = later_subtask i (action g) children a (subtask_at (suc i) children a h)
subtask_at i (task t ∷ children) a (inl e) = first_subtask i (task t) children a tt e
subtask_at i (task t ∷ children) a (inr h) = later_subtask i (task t) children a (subtask_at (suc i) children a h)

-- membership along an equation
moved_in : (a b : ℕ) (xs : List ℕ) → a ≡ b → IsIn a xs → IsIn b xs
moved_in a b xs e h = subst (λ k. IsIn k xs) e h

-- a child that is no step has its position among those of the subtasks
pub in_subtasks : (i : ℕ) (children : List Child) (k : ℕ) (c : Child) → slice_get children k ≡ Some c → IsSubtask c → IsIn (i + k) (subtask_positions i children)
in_subtasks i [] k c e h = absurd cc
in_subtasks i (precondition literals ∷ children) zero c e h = let same : precondition literals ≡ c = cc in absurd (subst IsSubtask (sym same) h)
in_subtasks i (precondition literals ∷ children) (suc k) c e h = moved_in (suc i + k) (i + suc k) _ (omega arith) (in_subtasks (suc i) children k c e h)
in_subtasks i (action g ∷ children) zero c e h = inl (omega arith)
in_subtasks i (action g ∷ children) (suc k) c e h = inr (moved_in (suc i + k) (i + suc k) _ (omega arith) (in_subtasks (suc i) children k c e h))
in_subtasks i (task t ∷ children) zero c e h = inl (omega arith)
in_subtasks i (task t ∷ children) (suc k) c e h = inr (moved_in (suc i + k) (i + suc k) _ (omega arith) (in_subtasks (suc i) children k c e h))

-- an earlier position is not among the later ones
subtask_new : (i : ℕ) (children : List Child) → IsIn i (subtask_positions (suc i) children) → ⊥
subtask_new i children h = let s = subtask_at (suc i) children i h in let e = s.is in omega arith

-- no position is there twice
pub subtasks_distinct : (i : ℕ) (children : List Child) → IsWithoutRepeats (subtask_positions i children)
subtasks_distinct i [] = tt
subtasks_distinct i (precondition literals ∷ children) = subtasks_distinct (suc i) children
subtasks_distinct i (action g ∷ children) = (subtask_new i children, subtasks_distinct (suc i) children)
subtasks_distinct i (task t ∷ children) = (subtask_new i children, subtasks_distinct (suc i) children)

-- ## Trees with slots and ids

-- a tree with the slots of its leaves and steps and the ids of its nodes
pub record Laid : Type 0 where
  pub node : Node
  pub slots : Slots
  pub ids : Place → ℕ

-- the line's id at each position below
abbrev pub id_below : (Place → ℕ) → ℕ → ℕ
id_below ids a = ids (a ∷ [])

-- ids below a node with its own
abbrev pub with_id : ℕ → (Place → ℕ) → Place → ℕ
with_id id ids [] = id
with_id id ids (a ∷ q) = ids (a ∷ q)

abbrev mutual
  -- each leaf and each compound node has a line of its task with its id, and the compound node's line lists the ids of
  -- its children
  pub Marks : Naming → PlanFile → Slots → (Place → ℕ) → Node → Type 0
  Marks naming file slots ids (leaf g) =
      (line : ActionLine) × (slice_get file.actions (slots []) ≡ Some line) × (line.id ≡ ids []) × (naming.named line.name line.arguments ≡ Some g)
  Marks naming file slots ids (step literals) = Unit {0}
  Marks naming file slots ids (compound t number nodes) =
      (line : DecompositionLine) × IsIn line file.decompositions × (line.id ≡ ids []) × (naming.named line.task line.arguments ≡ Some t)
      × (line.method ≡ naming.method_name t number)
      × IsRearrangementOf line.children (map (id_below ids) (subtask_positions 0 (roots nodes)))
      × AllMarks naming file slots ids 0 nodes

  -- the same of trees from the k-th child on
  pub AllMarks : Naming → PlanFile → Slots → (Place → ℕ) → ℕ → Nodes → Type 0
  AllMarks naming file slots ids i no_nodes = Unit {0}
  AllMarks naming file slots ids i (node n ns) =
      Marks naming file (λ q. slots (i ∷ q)) (λ q. ids (i ∷ q)) n × AllMarks naming file slots ids (suc i) ns

-- the id of the node above marks nothing below it
marks_with : (naming : Naming) (file : PlanFile) (slots : Slots) (ids : Place → ℕ) (id i : ℕ) (nodes : Nodes)
    → AllMarks naming file slots ids i nodes → AllMarks naming file slots (with_id id ids) i nodes
marks_with naming file slots ids id i no_nodes marks = marks
marks_with naming file slots ids id i (node n ns) marks = (marks.0, marks_with naming file slots ids id (suc i) ns marks.1)

-- ## One of each position

-- something holds of each plan with its position and id
abbrev pub AllOf : (ℕ → ℕ → PlanTree → Type 0) → List ℕ → List ℕ → PlanTrees → Type 0
AllOf P positions ids no_plans = (positions ≡ []) × (ids ≡ [])
AllOf P [] ids (plan p plans) = ⊥
AllOf P (a ∷ positions) [] (plan p plans) = ⊥
AllOf P (a ∷ positions) (id ∷ ids) (plan p plans) = P a id p × AllOf P positions ids plans

-- what holds of each of them in turn
all_of_map : (P Q : ℕ → ℕ → PlanTree → Type 0) (positions ids : List ℕ) (plans : PlanTrees) → ((a id : ℕ) (p : PlanTree) → IsIn a positions → P a id p → Q a id p)
    → AllOf P positions ids plans → AllOf Q positions ids plans
all_of_map P Q positions ids no_plans f all = all
all_of_map P Q [] ids (plan p plans) f all = absurd all
all_of_map P Q (a ∷ positions) [] (plan p plans) f all = absurd all
all_of_map P Q (a ∷ positions) (id ∷ ids) (plan p plans) f all = (f a id p (inl refl) all.0, all_of_map P Q positions ids plans (λ b x q i. f b x q (inr i)) all.1)

-- for each plan something was chosen
record Chosen {Y : Type 0} (P : ℕ → ℕ → PlanTree → Y → Type 0) (base : ℕ → Y) (positions ids : List ℕ) (plans : PlanTrees) : Type 0 where
  at : ℕ → Y
  each : AllOf (λ a id p. P a id p (at a)) positions ids plans
  others : (a : ℕ) → (IsIn a positions → ⊥) → at a ≡ base a

-- a choice whose test is true
cond_true : {Y : Type 0} (b : Bool) (x y : Y) → b ≡ true → cond b x y ≡ x
cond_true b x y e = ap (λ c. cond c x y) e

-- one function of the positions from one value for each
choose : {Y : Type 0} (P : ℕ → ℕ → PlanTree → Y → Type 0) (base : ℕ → Y) (positions ids : List ℕ) (plans : PlanTrees) → IsWithoutRepeats positions
    → AllOf (λ a id p. (y : Y) × P a id p y) positions ids plans → Chosen P base positions ids plans
choose P base positions ids no_plans distinct all = record { at = base; each = all; others = λ a h. refl }
choose P base [] ids (plan p plans) distinct all = absurd all
choose P base (a ∷ positions) [] (plan p plans) distinct all = absurd all
choose {Y = Y} P base (a ∷ positions) (id ∷ ids) (plan p plans) distinct all =
    let more = choose P base positions ids plans distinct.1 all.1 in
    let at : ℕ → Y = λ b. cond (eqb a b) all.0.0 (more.at b) in
    let other : (b : ℕ) → (a ≡ b → ⊥) → at b ≡ more.at b = λ b h. ap (λ c. cond c all.0.0 (more.at b)) (ne_eqb a b h) in
    record {
      at = at;
      each = (
        subst (P a id p) (sym (ap (λ c. cond c all.0.0 (more.at a)) (eq-eqb a a refl))) all.0.1,
        all_of_map (λ b x q. P b x q (more.at b)) (λ b x q. P b x q (at b)) positions ids plans
            (λ b x q i good. subst (P b x q) (sym (other b (λ same. distinct.0 (subst (λ k. IsIn k positions) (sym same) i)))) good) more.each,
      );
      others = λ b h. other b (λ same. h (inl (sym same))) ∙ more.others b (λ i. h (inr i));
    }

-- ## The steps of a network

-- the literals of the step at a position
abbrev literals_at : List Child → ℕ → List Literal
literals_at [] a = []
literals_at (precondition literals ∷ children) zero = literals
literals_at (action g ∷ children) zero = []
literals_at (task t ∷ children) zero = []
literals_at (c ∷ children) (suc a) = literals_at children a

-- the literals of a step at its position
literals_there : (children : List Child) (a : ℕ) (literals : List Literal) → slice_get children a ≡ Some (precondition literals) → literals_at children a ≡ literals
literals_there [] a literals e = absurd cc
literals_there (precondition given ∷ children) zero literals e = cc
literals_there (action g ∷ children) zero literals e = absurd cc
literals_there (task t ∷ children) zero literals e = absurd cc
literals_there (c ∷ children) (suc a) literals e = literals_there children a literals e

-- a gap for each step in which its literals hold
record Gaps (states : ℕ → State) (children : List Child) (start finish : ℕ → ℕ) : Type 0 where
  gap : ℕ → ℕ
  fits : (a : ℕ) (literals : List Literal) → slice_get children a ≡ Some (precondition literals)
      → (start a ≤ gap a) × (gap a ≤ finish a) × (holds (states (gap a)) literals ≡ true)

-- a value in front of the others
abbrev at_front : ℕ → (ℕ → ℕ) → ℕ → ℕ
at_front x value zero = x
at_front x value (suc i) = value i

-- steps that fit have such gaps
gaps : (states : ℕ → State) (children : List Child) (start finish : ℕ → ℕ) → StepsFit states children start finish → Gaps states children start finish
gaps states [] start finish fit = record { gap = λ a. 0; fits = λ a literals e. absurd cc }
gaps states (c ∷ children) start finish fit = by c refl (gaps states children (λ a. start (suc a)) (λ a. finish (suc a)) (λ a literals e. fit (suc a) literals e))
  where
    by : (d : Child) → c ≡ d → Gaps states children (λ a. start (suc a)) (λ a. finish (suc a)) → Gaps states (c ∷ children) start finish
    by (precondition given) same more =
        let here = fit 0 given (ap Some same) in
        record {
          gap = at_front here.0 more.gap;
          fits = λ a. elim a as (λ b. (literals : List Literal) → slice_get (c ∷ children) b ≡ Some (precondition literals)
              → (start b ≤ at_front here.0 more.gap b) × (at_front here.0 more.gap b ≤ finish b) × (holds (states (at_front here.0 more.gap b)) literals ≡ true)) [
                | zero ↦ (λ literals e. let one : given ≡ literals = cc in (here.1, here.2, subst (λ l. holds (states here.0) l ≡ true) one here.3))
                | suc b ↦ (λ literals e. more.fits b literals e)
              ];
        }
    by (action g) same more = record {
      gap = at_front 0 more.gap;
      fits = λ a. elim a as (λ b. (literals : List Literal) → slice_get (c ∷ children) b ≡ Some (precondition literals)
          → (start b ≤ at_front 0 more.gap b) × (at_front 0 more.gap b ≤ finish b) × (holds (states (at_front 0 more.gap b)) literals ≡ true)) [
            | zero ↦ (λ literals e. absurd cc)
            | suc b ↦ (λ literals e. more.fits b literals e)
          ];
    }
    by (task t) same more = record {
      gap = at_front 0 more.gap;
      fits = λ a. elim a as (λ b. (literals : List Literal) → slice_get (c ∷ children) b ≡ Some (precondition literals)
          → (start b ≤ at_front 0 more.gap b) × (at_front 0 more.gap b ≤ finish b) × (holds (states (at_front 0 more.gap b)) literals ≡ true)) [
            | zero ↦ (λ literals e. absurd cc)
            | suc b ↦ (λ literals e. more.fits b literals e)
          ];
    }

-- ## A network's trees from its children's

-- the slots of what was laid at each position
abbrev pub slots_of : (ℕ → Laid) → Slots
slots_of f [] = 0
slots_of f (a ∷ q) = (f a).slots q

-- the ids of what was laid at each position
abbrev pub ids_from : (ℕ → Laid) → Place → ℕ
ids_from f [] = 0
ids_from f (a ∷ q) = (f a).ids q

-- the nodes of what was laid from a position on
abbrev pub nodes_from : (ℕ → Laid) → ℕ → List Child → Nodes
nodes_from f i [] = no_nodes
nodes_from f i (c ∷ children) = node (f i).node (nodes_from f (suc i) children)

module _ (naming : Naming) (problem : Problem) (file : PlanFile) (states : ℕ → State) where
  -- a tree that stands for the child, sits between the gaps, and has marks
  pub record IsLaid (c : Child) (g h : ℕ) (y : Laid) : Type 0 where
    pub is_root : root y.node ≡ c
    pub tree : IsTree problem y.node
    pub sits : Sits problem states y.slots y.node g h
    pub marks : Marks naming file y.slots y.ids y.node

  -- trees for all of these children, in one forest
  pub record AreLaid (children : List Child) (start finish : ℕ → ℕ) (nodes : Nodes) (slots : Slots) (ids : Place → ℕ) (i : ℕ) : Type 0 where
    pub are_roots : roots nodes ≡ children
    pub trees : AreTrees problem nodes
    pub sit : AllSit problem states slots i nodes start finish
    pub marks : AllMarks naming file slots ids i nodes

  -- trees for all children, from position i on
  laid_from : (f : ℕ → Laid) (children : List Child) (start finish : ℕ → ℕ) (i : ℕ)
      → ((k : ℕ) (c : Child) → slice_get children k ≡ Some c → IsLaid c (start (i + k)) (finish (i + k)) (f (i + k)))
      → AreLaid children start finish (nodes_from f i children) (slots_of f) (ids_from f) i
  laid_from f [] start finish i each = record { are_roots = refl; trees = tt; sit = tt; marks = tt }
  laid_from f (c ∷ children) start finish i each =
      let here : IsLaid c (start i) (finish i) (f i) =
      subst (λ k. IsLaid c (start k) (finish k) (f k)) (let e : i + 0 ≡ i = omega arith in e) (each 0 c refl) in
      let more = laid_from f children start finish (suc i)
      (λ k d e. subst (λ m. IsLaid d (start m) (finish m) (f m)) (let same : i + suc k ≡ suc i + k = omega arith in same) (each (suc k) d e)) in
      record {
        are_roots = ap₂ ◌∷◌ here.is_root more.are_roots;
        trees = (here.tree, more.trees);
        sit = (here.sits, more.sit);
        marks = (here.marks, more.marks);
      }

  -- what was laid at a position is a tree of the plan there, in its span, with its id
  abbrev pub LaidAt : (ℕ → ℕ) → (ℕ → ℕ) → ℕ → ℕ → PlanTree → Laid → Type 0
  LaidAt start finish a id p y = IsLaid (child_of p) (start a) (finish a) y × (y.ids [] ≡ id)

  -- what stands at a position that is one of the plans'
  found_plan : (Q : ℕ → ℕ → PlanTree → Type 0) (children : List Child) (positions ids : List ℕ) (plans : PlanTrees) (a : ℕ) → StandAt children positions plans
      → AllOf Q positions ids plans → IsIn a positions → (id : ℕ) × (p : PlanTree) × (slice_get children a ≡ Some (child_of p)) × Q a id p
  found_plan Q children positions ids no_plans a stand all i = absurd (subst (IsIn a) stand i)
  found_plan Q children [] ids (plan p plans) a stand all i = absurd i
  found_plan Q children (b ∷ positions) [] (plan p plans) a stand all i = absurd all
  found_plan Q children (b ∷ positions) (id ∷ ids) (plan p plans) a stand all (inl same) =
      (id, p, subst (λ k. slice_get children k ≡ Some (child_of p)) (sym same) stand.0, subst (λ k. Q k id p) (sym same) all.0)
  found_plan Q children (b ∷ positions) (id ∷ ids) (plan p plans) a stand all (inr i) = found_plan Q children positions ids plans a stand.1 all.1 i

  -- the listed ids are those at the positions
  ids_of_all : (f : ℕ → Laid) (start finish : ℕ → ℕ) (positions ids : List ℕ) (plans : PlanTrees)
      → AllOf (λ a id p. LaidAt start finish a id p (f a)) positions ids plans → ids ≡ map (id_below (ids_from f)) positions
  ids_of_all f start finish positions ids no_plans all = all.1 ∙ ap (map (id_below (ids_from f))) (sym all.0)
  ids_of_all f start finish [] ids (plan p plans) all = absurd all
  ids_of_all f start finish (a ∷ positions) [] (plan p plans) all = absurd all
  ids_of_all f start finish (a ∷ positions) (id ∷ ids) (plan p plans) all = ap₂ ◌∷◌ (sym all.0.1) (ids_of_all f start finish positions ids plans all.1)

  -- trees for a network, laid between its spans, whose ids are the listed ones
  pub record Forest (children : List Child) (ids_listed : List ℕ) (start finish : ℕ → ℕ) : Type 0 where
    pub nodes : Nodes
    pub slots : Slots
    pub ids : Place → ℕ
    pub laid : AreLaid children start finish nodes slots ids 0
    pub listed : IsRearrangementOf ids_listed (map (id_below ids) (subtask_positions 0 children))

  -- trees for the plans of a network, and its steps, are trees for the network
  pub forest_laid : (children : List Child) (positions listed : List ℕ) (plans : PlanTrees) (start finish : ℕ → ℕ)
      → IsMatching children positions plans → StepsFit states children start finish
      → AllOf (λ a id p. (y : Laid) × LaidAt start finish a id p y) positions listed plans → Forest children listed start finish
  forest_laid children positions listed plans start finish matching steps all =
      let gap = gaps states children start finish steps in
      let base : ℕ → Laid = λ a. record { node = step (literals_at children a); slots = λ q. gap.gap a; ids = λ q. 0 } in
      let chosen = choose (LaidAt start finish) base positions listed plans (distinct_arranged positions _ matching.each_once (subtasks_distinct 0 children)) all in
      let subtask_there : (k : ℕ) (c : Child) → slice_get children k ≡ Some c → IsSubtask c → IsLaid c (start k) (finish k) (chosen.at k) = λ k c e h.
      (let i = in_arranged k positions _ matching.each_once (moved_in (0 + k) k _ (omega arith) (in_subtasks 0 children k c e h)) in
      let found = found_plan (λ a id p. LaidAt start finish a id p (chosen.at a)) children positions listed plans k matching.stand chosen.each i in
      let there = found.2 in
      let same : child_of found.1 ≡ c = cc in
      subst (λ d. IsLaid d (start k) (finish k) (chosen.at k)) same found.3.0) in
      let step_there : (k : ℕ) (literals : List Literal) → slice_get children k ≡ Some (precondition literals)
      → IsLaid (precondition literals) (start k) (finish k) (chosen.at k) = λ k literals e.
      (let not_in : IsIn k positions → ⊥ = λ i.
      (let s = subtask_at 0 children k (in_rearranged k positions _ matching.each_once i) in
      let at_k = s.is in
      let there : slice_get children k ≡ Some s.child = subst (λ m. slice_get children m ≡ Some s.child) (let w : s.offset ≡ k = omega arith in w) s.stands in
      let same : s.child ≡ precondition literals = cc in
      subst IsSubtask same s.is_subtask) in
      let literals_are = literals_there children k literals e in
      let fits = gap.fits k literals e in
      subst (IsLaid (precondition literals) (start k) (finish k)) (sym (chosen.others k not_in))
      (record {
        is_root = ap precondition literals_are;
        tree = tt;
        sits = (fits.0, fits.1, subst (λ l. holds (states (gap.gap k)) l ≡ true) (sym literals_are) fits.2);
        marks = tt;
      })) in
      let each : (k : ℕ) (c : Child) → slice_get children k ≡ Some c → IsLaid c (start k) (finish k) (chosen.at k) = λ k c. elim c as (λ d. slice_get children k ≡ Some d
      → IsLaid d (start k) (finish k) (chosen.at k)) [
        | precondition literals ↦ (λ e. step_there k literals e)
        | action g ↦ (λ e. subtask_there k (action g) e tt)
        | task t ↦ (λ e. subtask_there k (task t) e tt)
      ] in
      record {
        nodes = nodes_from chosen.at 0 children;
        slots = slots_of chosen.at;
        ids = ids_from chosen.at;
        laid = laid_from chosen.at children start finish 0
            (λ k c e. subst (λ m. IsLaid c (start m) (finish m) (chosen.at m)) (let w : k ≡ 0 + k = omega arith in w) (each k c e));
        listed = subst (λ xs. IsRearrangementOf xs (map (id_below (ids_from chosen.at)) (subtask_positions 0 children)))
            (sym (ids_of_all chosen.at start finish positions listed plans chosen.each))
            (map_rearranged (id_below (ids_from chosen.at)) positions (subtask_positions 0 children) matching.each_once);
      }

  -- ## From the lines' room

  module _ (run : LinesRun naming problem file states) where
    -- a line that names an action has one
    is_action : (g : GroundTask) (i : ℕ) (line : ActionLine) → slice_get file.actions i ≡ Some line → naming.named line.name line.arguments ≡ Some g
        → (a : Action) × (problem.action_of g ≡ Some a)
    is_action g i line there named = by (problem.action_of g) refl
      where
        by : (a : Option Action) → problem.action_of g ≡ a → (a : Action) × (problem.action_of g ≡ Some a)
        by None e =
            let does = run.performs i line there in
            let none : perform_line naming problem (states i) line ≡ None =
            ap (λ n. perform_action (states i) (option_and_then problem.action_of n)) named ∙ ap (perform_action (states i)) e in
            absurd cc
        by (Some a) e = (a, e)

    mutual
      -- a plan tree that has room is laid out in it
      pub lay : (p : PlanTree) (id g h : ℕ) → ShowsTree naming file id p → Fits naming problem states p g h
          → (y : Laid) × (IsLaid (child_of p) g h y × (y.ids [] ≡ id))
      lay (action_at t i) id g h (line, there, is, named) (low, high) = (
        record { node = leaf t; slots = λ q. i; ids = λ q. id },
        (record { is_root = refl; tree = is_action t i line there named; sits = (low, high); marks = (line, there, is, named) }, refl),
      )
      lay (decomposition t method plans) id g h (line, listed, is, named, is_method, shows) (number, network, found, name, room) =
          let start = room.2 in
          let finish = room.3 in
          let forest = forest_laid network.children room.0 line.children plans start finish room.1 room.5
          (lay_all plans room.0 line.children network.children start finish room.1.stand shows room.6) in (
            record { node = compound t number forest.nodes; slots = forest.slots; ids = with_id id forest.ids },
            (
              record {
                is_root = refl;
                tree = (network, found, forest.laid.are_roots, forest.laid.trees);
                sits = (start, finish, subst (λ o. AreSpans o start finish g h) (ap order_of_network (sym found)) room.4, forest.laid.sit);
                marks = (
                  line,
                  listed,
                  is,
                  named,
                  is_method ∙ name,
                  subst (λ c. IsRearrangementOf line.children (map (id_below forest.ids) (subtask_positions 0 c))) (sym forest.laid.are_roots) forest.listed,
                  marks_with naming file forest.slots forest.ids id 0 forest.nodes forest.laid.marks,
                );
              },
              refl,
            ),
          )

      -- and so are plan trees, each in its span
      pub lay_all : (plans : PlanTrees) (positions ids : List ℕ) (children : List Child) (start finish : ℕ → ℕ) → StandAt children positions plans
          → ShowTrees naming file ids plans → AllFit naming problem states positions plans start finish
          → AllOf (λ a id p. (y : Laid) × LaidAt start finish a id p y) positions ids plans
      lay_all no_plans positions ids children start finish stand shows fit = (stand, shows)
      lay_all (plan p plans) [] ids children start finish stand shows fit = absurd stand
      lay_all (plan p plans) (a ∷ positions) [] children start finish stand shows fit = absurd shows
      lay_all (plan p plans) (a ∷ positions) (id ∷ ids) children start finish stand shows fit =
          (lay p id (start a) (finish a) shows.0 fit.0, lay_all plans positions ids children start finish stand.1 shows.1 fit.1)
