-- Where the lines of a tree's nodes are a forest, no two nodes have one id, and each line is a node's.
use Rattle.std.proofs.Common.{◌≡◌, ℕ, zero, suc, ◌+◌, ◌<◌, List, [], ◌∷◌, ◌++◌, length, map, Option, Some, None, slice_get, inl, inr, sym, refl, ap, ap₂, ◌∙◌, subst, append-nil, arith}
use Rattle.std.proofs.lemmas.List.{length-append}
use Rattle.htn_model.specs.Problem.{GroundTask, Child}
use Rattle.htn_model.specs.Tree.{Node, leaf, step, compound, Nodes, no_nodes, node, Place, child_at, children_in, node_below, node_at, root, roots}
use Rattle.htn_model.specs.PlanFile.{ActionLine, DecompositionLine, PlanFile, Naming, IsRearrangementOf, IsIn, IsWithoutRepeats, action_ids, decomposition_ids, all_children, defined_ids, listed_ids, IsForest, IsReached, from_root, from_parent}
use Rattle.htn_model.specs.Fits.{subtask_positions}
use Rattle.htn_model.specs.Placement.{Slots}
use Rattle.htn_model.specs.Shadow.{HasId}
use Rattle.htn_model.proofs.Ascending.{in_left, in_right, in_map, in_mapped, at_in}
use Rattle.htn_model.proofs.Decoupled.{nothing_below}
use Rattle.htn_model.proofs.Rearranged.{in_rearranged, in_arranged, distinct_rearranged, distinct_left, distinct_right, distinct_apart, distinct_mapped}
use Rattle.htn_model.proofs.Laid.{IsSubtask, subtask_at, in_subtasks, Marks, AllMarks, id_below}

-- ## Lines of a file

-- a decomposition line's id is among theirs
pub id_listed : (line : DecompositionLine) (lines : List DecompositionLine) → IsIn line lines → IsIn line.id (decomposition_ids lines)
id_listed line [] i = absurd i
id_listed line (l ∷ lines) (inl same) = inl (ap (λ x. x.id) same)
id_listed line (l ∷ lines) (inr i) = inr (id_listed line lines i)

-- an action line's id is among theirs
pub action_id_listed : (line : ActionLine) (lines : List ActionLine) → IsIn line lines → IsIn line.id (action_ids lines)
action_id_listed line [] i = absurd i
action_id_listed line (l ∷ lines) (inl same) = inl (ap (λ x. x.id) same)
action_id_listed line (l ∷ lines) (inr i) = inr (action_id_listed line lines i)

-- no two decomposition lines have one id
pub one_line : (x y : DecompositionLine) (lines : List DecompositionLine) → IsWithoutRepeats (decomposition_ids lines) → IsIn x lines → IsIn y lines → x.id ≡ y.id → x ≡ y
one_line x y [] d i j e = absurd i
one_line x y (l ∷ lines) d (inl a) (inl b) e = a ∙ sym b
one_line x y (l ∷ lines) d (inl a) (inr j) e = absurd (d.0 (subst (λ k. IsIn k (decomposition_ids lines)) (sym e ∙ ap (λ z. z.id) a) (id_listed y lines j)))
one_line x y (l ∷ lines) d (inr i) (inl b) e = absurd (d.0 (subst (λ k. IsIn k (decomposition_ids lines)) (e ∙ ap (λ z. z.id) b) (id_listed x lines i)))
one_line x y (l ∷ lines) d (inr i) (inr j) e = one_line x y lines d.1 i j e

-- no two action lines have one id
pub one_index : (lines : List ActionLine) (i j : ℕ) (x y : ActionLine) → IsWithoutRepeats (action_ids lines) → slice_get lines i ≡ Some x → slice_get lines j ≡ Some y → x.id ≡ y.id → i ≡ j
one_index [] i j x y d a b e = absurd cc
one_index (l ∷ lines) zero zero x y d a b e = refl
one_index (l ∷ lines) zero (suc j) x y d a b e =
    let same : l ≡ x = cc in absurd (d.0 (subst (λ k. IsIn k (action_ids lines)) (sym e ∙ ap (λ z. z.id) (sym same)) (action_id_listed y lines (at_in y lines j b))))
one_index (l ∷ lines) (suc i) zero x y d a b e =
    let same : l ≡ y = cc in absurd (d.0 (subst (λ k. IsIn k (action_ids lines)) (e ∙ ap (λ z. z.id) (sym same)) (action_id_listed x lines (at_in x lines i a))))
one_index (l ∷ lines) (suc i) (suc j) x y d a b e = ap suc (one_index lines i j x y d.1 a b e)

-- a line's child is among all children
pub child_listed : (x : ℕ) (line : DecompositionLine) (lines : List DecompositionLine) → IsIn line lines → IsIn x line.children → IsIn x (all_children lines)
child_listed x line [] i j = absurd i
child_listed x line (l ∷ lines) (inl same) j = in_left x l.children (all_children lines) (subst (λ z. IsIn x z.children) same j)
child_listed x line (l ∷ lines) (inr i) j = in_right x l.children (all_children lines) (child_listed x line lines i j)

-- no child has two lines that list it
pub one_parent : (x : ℕ) (k l : DecompositionLine) (lines : List DecompositionLine) → IsWithoutRepeats (all_children lines) → IsIn k lines → IsIn l lines
    → IsIn x k.children → IsIn x l.children → k ≡ l
one_parent x k l [] d i j a b = absurd i
one_parent x k l (m ∷ lines) d (inl s) (inl t) a b = s ∙ sym t
one_parent x k l (m ∷ lines) d (inl s) (inr j) a b =
    absurd (distinct_apart x m.children (all_children lines) d (subst (λ z. IsIn x z.children) s a) (child_listed x l lines j b))
one_parent x k l (m ∷ lines) d (inr i) (inl t) a b =
    absurd (distinct_apart x m.children (all_children lines) d (subst (λ z. IsIn x z.children) t b) (child_listed x k lines i a))
one_parent x k l (m ∷ lines) d (inr i) (inr j) a b = one_parent x k l lines (distinct_right m.children (all_children lines) d) i j a b

-- no line lists a child twice
children_distinct : (line : DecompositionLine) (lines : List DecompositionLine) → IsWithoutRepeats (all_children lines) → IsIn line lines → IsWithoutRepeats line.children
children_distinct line [] d i = absurd i
children_distinct line (l ∷ lines) d (inl same) = subst (λ z. IsWithoutRepeats z.children) (sym same) (distinct_left l.children (all_children lines) d)
children_distinct line (l ∷ lines) d (inr i) = children_distinct line lines (distinct_right l.children (all_children lines) d) i

-- a file that is a forest has no id twice
module _ (file : PlanFile) (forest : IsForest file) where
  -- no action line has the id of a decomposition line
  pub kinds_apart : (line : ActionLine) (other : DecompositionLine) → IsIn line file.actions → IsIn other file.decompositions → line.id ≡ other.id → ⊥
  kinds_apart line other i j e =
      distinct_apart line.id (action_ids file.actions) (decomposition_ids file.decompositions) forest.defined_once (action_id_listed line file.actions i)
      (subst (λ x. IsIn x (decomposition_ids file.decompositions)) (sym e) (id_listed other file.decompositions j))

  -- the ids of decomposition lines have no repeats
  pub decompositions_distinct : IsWithoutRepeats (decomposition_ids file.decompositions)
  decompositions_distinct = distinct_right (action_ids file.actions) (decomposition_ids file.decompositions) forest.defined_once

  -- nor have those of action lines
  pub actions_distinct : IsWithoutRepeats (action_ids file.actions)
  actions_distinct = distinct_left (action_ids file.actions) (decomposition_ids file.decompositions) forest.defined_once

-- ## Places

-- a way down in two parts
pub below_append : (n : Option Node) (p q : Place) → node_below n (p ++ q) ≡ node_below (node_below n p) q
below_append n [] q = refl
below_append n (i ∷ p) q = below_append (child_at (children_in n) i) p q

-- a child of the node at a place
pub at_child : (trees : Nodes) (p : Place) (t : GroundTask) (number : ℕ) (nodes : Nodes) (a : ℕ) → node_at trees p ≡ Some (compound t number nodes)
    → node_at trees (p ++ a ∷ []) ≡ child_at nodes a
at_child trees [] t number nodes a e = absurd cc
at_child trees (i ∷ p) t number nodes a e = below_append (child_at trees i) p (a ∷ []) ∙ ap (λ n. node_below n (a ∷ [])) e

-- the tree at the position of a child
root_at : (ns : Nodes) (a : ℕ) (c : Child) → slice_get (roots ns) a ≡ Some c → (m : Node) × (child_at ns a ≡ Some m) × (root m ≡ c)
root_at no_nodes a c e = absurd cc
root_at (node n ns) zero c e = (n, refl, let same : root n ≡ c = cc in same)
root_at (node n ns) (suc a) c e = root_at ns a c e

-- a tree of a subtask has an id
id_from_root : (m : Node) → IsSubtask (root m) → HasId (Some m)
id_from_root (leaf g) h = tt
id_from_root (step literals) h = absurd h
id_from_root (compound t number nodes) h = tt

-- so has the tree at a subtask's position
pub has_id_at : (ns : Nodes) (a : ℕ) → IsIn a (subtask_positions 0 (roots ns)) → HasId (child_at ns a)
has_id_at ns a i =
    let s = subtask_at 0 (roots ns) a i in
    let at_a = s.is in
    let there = root_at ns a s.child (subst (λ k. slice_get (roots ns) k ≡ Some s.child) (let e : s.offset ≡ a = omega arith in e) s.stands) in
    subst HasId (sym there.1) (id_from_root there.0 (subst IsSubtask (sym there.2) s.is_subtask))

-- what the tree at a position stands for
pub root_of_child : (ns : Nodes) (a : ℕ) (m : Node) → child_at ns a ≡ Some m → slice_get (roots ns) a ≡ Some (root m)
root_of_child no_nodes a m e = absurd cc
root_of_child (node n ns) zero m e = let same : n ≡ m = cc in ap (λ k. Some (root k)) same
root_of_child (node n ns) (suc a) m e = root_of_child ns a m e

-- a node with an id is no step
subtask_from_id : (m : Node) → HasId (Some m) → IsSubtask (root m)
subtask_from_id (leaf g) h = tt
subtask_from_id (step literals) h = absurd h
subtask_from_id (compound t number nodes) h = tt

-- so its position is a subtask's
pub position_of_child : (ns : Nodes) (a : ℕ) → HasId (child_at ns a) → IsIn a (subtask_positions 0 (roots ns))
position_of_child ns a h = by (child_at ns a) refl h
  where
    by : (m : Option Node) → child_at ns a ≡ m → HasId m → IsIn a (subtask_positions 0 (roots ns))
    by None e g = absurd g
    by (Some m) e g = subst (λ k. IsIn k (subtask_positions 0 (roots ns))) (let w : 0 + a ≡ a = omega arith in w)
        (in_subtasks 0 (roots ns) a (root m) (root_of_child ns a m e) (subtask_from_id m g))

-- below nothing there is no id
pub no_id : (p : Place) → HasId (node_below None p) → ⊥
no_id p h = subst HasId (nothing_below p) h

-- a node with an id is a root, or a child of a compound node
pub data Parent (trees : Nodes) (p : Place) : Type 0 where
  a_root : (a : ℕ) → p ≡ a ∷ [] → IsIn a (subtask_positions 0 (roots trees)) → Parent trees p
  a_child : (above : Place) (a : ℕ) (t : GroundTask) (number : ℕ) (nodes : Nodes) → p ≡ above ++ a ∷ []
      → node_at trees above ≡ Some (compound t number nodes) → IsIn a (subtask_positions 0 (roots nodes)) → Parent trees p

-- a parent further down
deeper : (trees : Nodes) (i : ℕ) (p : Place) (t : GroundTask) (number : ℕ) (nodes : Nodes) → child_at trees i ≡ Some (compound t number nodes)
    → Parent nodes p → Parent trees (i ∷ p)
deeper trees i p t number nodes e (a_root a is listed) = a_child (i ∷ []) a t number nodes (ap (λ q. i ∷ q) is) e listed
deeper trees i p t number nodes e (a_child [] a u m inner is stands listed) = absurd cc
deeper trees i p t number nodes e (a_child (j ∷ above) a u m inner is stands listed) =
    a_child (i ∷ j ∷ above) a u m inner (ap (λ q. i ∷ q) is) (ap (λ n. node_below n (j ∷ above)) e ∙ stands) listed

-- a node with an id is a root or a compound node's child
pub parent_of : (p : Place) (trees : Nodes) → HasId (node_at trees p) → Parent trees p
parent_of [] trees h = absurd h
parent_of (i ∷ []) trees h = a_root i refl (position_of_child trees i h)
parent_of (i ∷ j ∷ p) trees h = by (child_at trees i) refl h (λ nodes. parent_of (j ∷ p) nodes)
  where
    by : (m : Option Node) → child_at trees i ≡ m → HasId (node_below m (j ∷ p)) → ((nodes : Nodes) → HasId (node_at nodes (j ∷ p)) → Parent nodes (j ∷ p)) → Parent trees (i ∷ j ∷ p)
    by None e g more = absurd (no_id (j ∷ p) g)
    by (Some (leaf t)) e g more = absurd (no_id p g)
    by (Some (step literals)) e g more = absurd (no_id p g)
    by (Some (compound t number nodes)) e g more = deeper trees i (j ∷ p) t number nodes e (more nodes g)

-- ## The marks of a place

module _ (naming : Naming) (file : PlanFile) where
  -- the marks of the tree at a position, counted from i
  marks_at : (slots : Slots) (ids : Place → ℕ) (i : ℕ) (ns : Nodes) (k : ℕ) (m : Node) → AllMarks naming file slots ids i ns → child_at ns k ≡ Some m
      → Marks naming file (λ q. slots ((i + k) ∷ q)) (λ q. ids ((i + k) ∷ q)) m
  marks_at slots ids i no_nodes k m all e = absurd cc
  marks_at slots ids i (node n ns) zero m all e =
      let same : n ≡ m = cc in let w : i ≡ i + 0 = omega arith in
      subst (λ j. Marks naming file (λ q. slots (j ∷ q)) (λ q. ids (j ∷ q)) m) w (subst (Marks naming file (λ q. slots (i ∷ q)) (λ q. ids (i ∷ q))) same all.0)
  marks_at slots ids i (node n ns) (suc k) m all e =
      let w : suc i + k ≡ i + suc k = omega arith in
      subst (λ j. Marks naming file (λ q. slots (j ∷ q)) (λ q. ids (j ∷ q)) m) w (marks_at slots ids (suc i) ns k m all.1 e)

  -- the marks of a child
  marks_child : (slots : Slots) (ids : Place → ℕ) (ns : Nodes) (k : ℕ) (m : Node) → AllMarks naming file slots ids 0 ns → child_at ns k ≡ Some m
      → Marks naming file (λ q. slots (k ∷ q)) (λ q. ids (k ∷ q)) m
  marks_child slots ids ns k m all e =
      let w : 0 + k ≡ k = omega arith in
      subst (λ j. Marks naming file (λ q. slots (j ∷ q)) (λ q. ids (j ∷ q)) m) w (marks_at slots ids 0 ns k m all e)

  -- the marks of a node further down
  mutual_below : (p : Place) (slots : Slots) (ids : Place → ℕ) (n m : Node) → Marks naming file slots ids n → node_below (Some n) p ≡ Some m
      → Marks naming file (λ q. slots (p ++ q)) (λ q. ids (p ++ q)) m
  mutual_below [] slots ids n m marks e = let same : n ≡ m = cc in subst (Marks naming file slots ids) same marks
  mutual_below (i ∷ p) slots ids (leaf g) m marks e = let none = nothing_below p in absurd cc
  mutual_below (i ∷ p) slots ids (step literals) m marks e = let none = nothing_below p in absurd cc
  mutual_below (i ∷ p) slots ids (compound t number nodes) m marks e = by (child_at nodes i) refl e (λ c. mutual_below p (λ q. slots (i ∷ q)) (λ q. ids (i ∷ q)) c m)
    where
      by : (o : Option Node) → child_at nodes i ≡ o → node_below o p ≡ Some m
          → ((c : Node) → Marks naming file (λ q. slots (i ∷ q)) (λ q. ids (i ∷ q)) c → node_below (Some c) p ≡ Some m
          → Marks naming file (λ q. slots (i ∷ (p ++ q))) (λ q. ids (i ∷ (p ++ q))) m)
          → Marks naming file (λ q. slots (i ∷ (p ++ q))) (λ q. ids (i ∷ (p ++ q))) m
      by None here there more = let none = nothing_below p in absurd cc
      by (Some c) here there more = more c (marks_child slots ids nodes i c marks.6 here) there

  module _ (slots : Slots) (ids : Place → ℕ) (trees : Nodes) (marks : AllMarks naming file slots ids 0 trees) where
    -- each node of the trees has its line
    marks_of : (p : Place) (m : Node) → node_at trees p ≡ Some m → Marks naming file (λ q. slots (p ++ q)) (λ q. ids (p ++ q)) m
    marks_of [] m e = absurd cc
    marks_of (i ∷ p) m e = by (child_at trees i) refl e
      where
        by : (o : Option Node) → child_at trees i ≡ o → node_below o p ≡ Some m → Marks naming file (λ q. slots (i ∷ (p ++ q))) (λ q. ids (i ∷ (p ++ q))) m
        by None here there = let none = nothing_below p in absurd cc
        by (Some c) here there = mutual_below p (λ q. slots (i ∷ q)) (λ q. ids (i ∷ q)) c m (marks_child slots ids trees i c marks here) there

    -- the line of the action at a place
    pub record LeafLine (p : Place) (g : GroundTask) : Type 0 where
      pub line : ActionLine
      pub stands : slice_get file.actions (slots p) ≡ Some line
      pub is : line.id ≡ ids p
      pub named : naming.named line.name line.arguments ≡ Some g

    -- each action has its line
    pub leaf_line : (p : Place) (g : GroundTask) → node_at trees p ≡ Some (leaf g) → LeafLine p g
    leaf_line p g e =
        let m = marks_of p (leaf g) e in
        record {
          line = m.0;
          stands = subst (λ q. slice_get file.actions (slots q) ≡ Some m.0) (append-nil p) m.1;
          is = m.2 ∙ ap ids (append-nil p);
          named = m.3;
        }

    -- the line of the compound node at a place
    pub record CompoundLine (p : Place) (t : GroundTask) (number : ℕ) (nodes : Nodes) : Type 0 where
      pub line : DecompositionLine
      pub stands : IsIn line file.decompositions
      pub is : line.id ≡ ids p
      pub named : naming.named line.task line.arguments ≡ Some t
      pub method : line.method ≡ naming.method_name t number
      pub children : IsRearrangementOf line.children (map (λ a. ids (p ++ a ∷ [])) (subtask_positions 0 (roots nodes)))

    -- each compound node has its line
    pub compound_line : (p : Place) (t : GroundTask) (number : ℕ) (nodes : Nodes) → node_at trees p ≡ Some (compound t number nodes) → CompoundLine p t number nodes
    compound_line p t number nodes e =
        let m = marks_of p (compound t number nodes) e in
        record { line = m.0; stands = m.1; is = m.2 ∙ ap ids (append-nil p); named = m.3; method = m.4; children = m.5 }

    module _ (forest : IsForest file) (listed : IsRearrangementOf file.roots (map (id_below ids) (subtask_positions 0 (roots trees)))) where
      -- no id is listed twice
      listed_distinct : IsWithoutRepeats (listed_ids file)
      listed_distinct = distinct_rearranged (defined_ids file) (listed_ids file) forest.listed_once forest.defined_once

      -- no id is listed twice as a child
      below_distinct : IsWithoutRepeats (all_children file.decompositions)
      below_distinct = distinct_right file.roots (all_children file.decompositions) listed_distinct

      -- the root line lists the ids of the trees
      root_id : (a : ℕ) → IsIn a (subtask_positions 0 (roots trees)) → IsIn (ids (a ∷ [])) file.roots
      root_id a i = in_arranged (ids (a ∷ [])) file.roots _ listed (in_mapped (id_below ids) a _ i)

      -- a compound node's line lists the ids of its children
      child_id : (p : Place) (t : GroundTask) (number : ℕ) (nodes : Nodes) (c : CompoundLine p t number nodes) (a : ℕ) → IsIn a (subtask_positions 0 (roots nodes))
          → IsIn (ids (p ++ a ∷ [])) c.line.children
      child_id p t number nodes c a i = in_arranged (ids (p ++ a ∷ [])) c.line.children _ c.children (in_mapped (λ b. ids (p ++ b ∷ [])) a _ i)

      -- no id is both a root and a child
      not_both : (x : ℕ) (line : DecompositionLine) → IsIn x file.roots → IsIn line file.decompositions → IsIn x line.children → ⊥
      not_both x line i j k = distinct_apart x file.roots (all_children file.decompositions) listed_distinct i (child_listed x line file.decompositions j k)

      -- no two nodes have one id
      one_place : (n : ℕ) (p q : Place) → length p < n → HasId (node_at trees p) → HasId (node_at trees q) → ids p ≡ ids q → p ≡ q
      one_place zero p q low hp hq e = absurd (omega arith)
      one_place (suc n) p q low hp hq e = by (parent_of p trees hp) (parent_of q trees hq) (one_place n)
        where
          by : Parent trees p → Parent trees q
              → ((r s : Place) → length r < n → HasId (node_at trees r) → HasId (node_at trees s) → ids r ≡ ids s → r ≡ s) → p ≡ q
          by (a_root a is i) (a_root b at j) more =
              is ∙ ap (λ k. k ∷ []) (distinct_mapped (id_below ids) a b _ (distinct_rearranged file.roots _ listed (distinct_left file.roots (all_children file.decompositions) listed_distinct))
              i j (ap ids (sym is) ∙ e ∙ ap ids at)) ∙ sym at
          by (a_root a is i) (a_child above b t number nodes at stands j) more =
              let c = compound_line above t number nodes stands in
              absurd (not_both (ids (a ∷ [])) c.line (root_id a i) c.stands
              (subst (λ x. IsIn x c.line.children) (ap ids (sym at) ∙ sym e ∙ ap ids is) (child_id above t number nodes c b j)))
          by (a_child above a t number nodes is stands i) (a_root b at j) more =
              let c = compound_line above t number nodes stands in
              absurd (not_both (ids (b ∷ [])) c.line (root_id b j) c.stands
              (subst (λ x. IsIn x c.line.children) (ap ids (sym is) ∙ e ∙ ap ids at) (child_id above t number nodes c a i)))
          by (a_child above a t number nodes is stands i) (a_child over b u m others at stands_there j) more =
              let c = compound_line above t number nodes stands in
              let d = compound_line over u m others stands_there in
              let same_id : ids (above ++ a ∷ []) ≡ ids (over ++ b ∷ []) = ap ids (sym is) ∙ e ∙ ap ids at in
              let lines : c.line ≡ d.line = one_parent (ids (above ++ a ∷ [])) c.line d.line file.decompositions below_distinct c.stands d.stands
              (child_id above t number nodes c a i)
              (subst (λ x. IsIn x d.line.children) (sym same_id) (child_id over u m others d b j)) in
              let long = ap length is ∙ length-append above (a ∷ []) in
              let parents : above ≡ over = more above over (omega arith) (subst HasId (sym stands) tt) (subst HasId (sym stands_there) tt)
              (sym c.is ∙ ap (λ l. l.id) lines ∙ d.is) in
              let both : Some (compound t number nodes) ≡ Some (compound u m others) = sym stands ∙ ap (node_at trees) parents ∙ stands_there in
              let inner : nodes ≡ others = cc in
              let there : IsIn b (subtask_positions 0 (roots nodes)) = subst (λ ns. IsIn b (subtask_positions 0 (roots ns))) (sym inner) j in
              let ends : a ≡ b = distinct_mapped (λ k. ids (above ++ k ∷ [])) a b (subtask_positions 0 (roots nodes))
              (distinct_rearranged c.line.children _ c.children (children_distinct c.line file.decompositions below_distinct c.stands)) i there
              (same_id ∙ ap (λ r. ids (r ++ b ∷ [])) (sym parents)) in
              is ∙ ap₂ (λ r k. r ++ k ∷ []) parents ends ∙ sym at

      -- two nodes with one id are one
      pub one_to_one : (p q : Place) → HasId (node_at trees p) → HasId (node_at trees q) → ids p ≡ ids q → p ≡ q
      one_to_one p q = one_place (suc (length p)) p q (omega arith)

      -- the node of a line
      pub record PlaceOf (id : ℕ) : Type 0 where
        pub place : Place
        pub has_id : HasId (node_at trees place)
        pub is : ids place ≡ id

      -- a child of a line with a node has one
      child_place : (id : ℕ) (line : DecompositionLine) → IsIn line file.decompositions → PlaceOf line.id → IsIn id line.children → PlaceOf id
      child_place id line there p i = by (node_at trees p.place) refl p.has_id
        where
          by : (m : Option Node) → node_at trees p.place ≡ m → HasId m → PlaceOf id
          by None e h = absurd h
          by (Some (leaf g)) e h =
              let l = leaf_line p.place g e in
              absurd (kinds_apart file forest l.line line (at_in l.line file.actions (slots p.place) l.stands) there (l.is ∙ p.is))
          by (Some (step literals)) e h = absurd h
          by (Some (compound t number nodes)) e h =
              let c = compound_line p.place t number nodes e in
              let same : c.line ≡ line = one_line c.line line file.decompositions (decompositions_distinct file forest) c.stands there (c.is ∙ p.is) in
              let found = in_map (λ a. ids (p.place ++ a ∷ [])) id (subtask_positions 0 (roots nodes))
              (in_rearranged id c.line.children _ c.children (subst (λ l. IsIn id l.children) (sym same) i)) in
              record {
                place = p.place ++ found.0 ∷ [];
                has_id = subst HasId (sym (at_child trees p.place t number nodes found.0 e)) (has_id_at nodes found.0 found.1);
                is = sym found.2;
              }

      -- each line that is reached has a node
      place_reached : (id : ℕ) → IsReached file id → PlaceOf id
      place_reached id (from_root x i) =
          let found = in_map (id_below ids) x (subtask_positions 0 (roots trees)) (in_rearranged x file.roots _ listed i) in
          record { place = found.0 ∷ []; has_id = has_id_at trees found.0 found.1; is = sym found.2 }
      place_reached id (from_parent x line there reached i) = child_place x line there (place_reached line.id reached) i

      -- each line is a node's
      pub place_of : (id : ℕ) → IsIn id (defined_ids file) → PlaceOf id
      place_of id i = place_reached id (forest.reached id i)

      -- each action line is that of an action
      pub leaf_of : (i : ℕ) (line : ActionLine) → slice_get file.actions i ≡ Some line → (p : Place) × (g : GroundTask) × (node_at trees p ≡ Some (leaf g)) × (slots p ≡ i)
      leaf_of i line there =
          by (place_of line.id (in_left line.id (action_ids file.actions) _ (action_id_listed line file.actions (at_in line file.actions i there))))
        where
          by : PlaceOf line.id → (p : Place) × (g : GroundTask) × (node_at trees p ≡ Some (leaf g)) × (slots p ≡ i)
          by p = cases (node_at trees p.place) refl p.has_id
            where
              cases : (m : Option Node) → node_at trees p.place ≡ m → HasId m → (p : Place) × (g : GroundTask) × (node_at trees p ≡ Some (leaf g)) × (slots p ≡ i)
              cases None e h = absurd h
              cases (Some (leaf g)) e h =
                  let l = leaf_line p.place g e in (p.place, g, e, one_index file.actions (slots p.place) i l.line line (actions_distinct file forest) l.stands there (l.is ∙ p.is))
              cases (Some (step literals)) e h = absurd h
              cases (Some (compound t number nodes)) e h =
                  let c = compound_line p.place t number nodes e in
                  absurd (kinds_apart file forest line c.line (at_in line file.actions i there) c.stands (sym p.is ∙ sym c.is))

      -- each decomposition line is that of a compound node
      pub compound_of : (line : DecompositionLine) → IsIn line file.decompositions
          → (p : Place) × (t : GroundTask) × (number : ℕ) × (nodes : Nodes) × (node_at trees p ≡ Some (compound t number nodes)) × (ids p ≡ line.id)
      compound_of line there = by (place_of line.id (in_right line.id (action_ids file.actions) _ (id_listed line file.decompositions there)))
        where
          by : PlaceOf line.id → (p : Place) × (t : GroundTask) × (number : ℕ) × (nodes : Nodes) × (node_at trees p ≡ Some (compound t number nodes)) × (ids p ≡ line.id)
          by p = cases (node_at trees p.place) refl p.has_id
            where
              cases : (m : Option Node) → node_at trees p.place ≡ m → HasId m
                  → (p : Place) × (t : GroundTask) × (number : ℕ) × (nodes : Nodes) × (node_at trees p ≡ Some (compound t number nodes)) × (ids p ≡ line.id)
              cases None e h = absurd h
              cases (Some (leaf g)) e h =
                  let l = leaf_line p.place g e in
                  absurd (kinds_apart file forest l.line line (at_in l.line file.actions (slots p.place) l.stands) there (l.is ∙ p.is))
              cases (Some (step literals)) e h = absurd h
              cases (Some (compound t number nodes)) e h = (p.place, t, number, nodes, e, p.is)

      -- two leaves with one line are one
      pub one_leaf : (p q : Place) (g h : GroundTask) → node_at trees p ≡ Some (leaf g) → node_at trees q ≡ Some (leaf h) → slots p ≡ slots q → p ≡ q
      one_leaf p q g h hp hq e =
          let k = leaf_line p g hp in
          let l = leaf_line q h hq in
          let ks = k.stands in
          let ls = l.stands in
          let same : k.line ≡ l.line = cc in
          one_to_one p q (subst HasId (sym hp) tt) (subst HasId (sym hq) tt) (sym k.is ∙ ap (λ x. x.id) same ∙ l.is)
