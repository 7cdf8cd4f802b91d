-- A solution's plan file is a shadow of it.
use Rattle.std.proofs.Common.{◌≡◌, ℕ, zero, suc, ◌+◌, Bool, true, false, cond, eqb, List, [], ◌∷◌, ◌++◌, map, Option, Some, None, slice_get, ◌&&◌, ◌⊎◌, inl, inr, sym, refl, ap, ap₂, ◌∙◌, subst, append_assoc, append-nil, arith}
use Rattle.std.specs.List.{AllByRecursion, filter}
use Rattle.std.proofs.lemmas.Bool.{eq-eqb, eqb-true}
use Rattle.htn_model.specs.Problem.{GroundTask, Problem}
use Rattle.htn_model.specs.Tree.{Node, leaf, step, compound, Nodes, no_nodes, node, child_at, children_in, Place, node_below, node_at, primitives, primitives_from, IsRearrangement, Solution, IsSolution}
use Rattle.htn_model.specs.PlanFile.{Naming, IsRearrangementOf}
use Rattle.htn_model.specs.Placement.{IsPrimitive}
use Rattle.htn_model.specs.Shadow.{shown_from, compounds, compounds_from, ids_of, AreActionLines, end, action_line, no_line, IsStep, IsDecompositionLine, AreDecompositionLines, HasId}
use Rattle.htn_model.specs.Numbered.{is_leaf, numbered_places, is_same_place, position, id_in, task_at, number_at, action_line_at, decomposition_line_at, NamesNodes, NumberedIsShadow}
use Rattle.htn_model.proofs.Ascending.{In, in_left, in_right, in_split, in_filter}
use Rattle.htn_model.proofs.Pending.{all_join, all_map, all_arranged}
use Rattle.htn_model.proofs.Decoupled.{nothing_below}

-- ## Positions

-- a place is the same as itself
pub same_place_itself : (p : Place) → is_same_place p p ≡ true
same_place_itself [] = refl
same_place_itself (i ∷ p) = ap₂ ◌&&◌ (eq-eqb i i refl) (same_place_itself p)

-- places that the test finds the same are equal
pub same_place : (p q : Place) → is_same_place p q ≡ true → p ≡ q
same_place [] [] h = refl
same_place [] (j ∷ q) h = absurd cc
same_place (i ∷ p) [] h = absurd cc
same_place (i ∷ p) (j ∷ q) h = by (eqb i j) refl h (same_place p q)
  where
    by : (b : Bool) → eqb i j ≡ b → (b && is_same_place p q) ≡ true → (is_same_place p q ≡ true → p ≡ q) → i ∷ p ≡ j ∷ q
    by true e g more = ap₂ ◌∷◌ (eqb-true i j e) (more g)
    by false e g more = absurd cc

-- at the position of a place stands the place
at_position : (p : Place) (xs : List Place) → In p xs → slice_get xs (position p xs) ≡ Some p
at_position p [] i = absurd i
at_position p (x ∷ xs) i = by (is_same_place p x) refl i (at_position p xs)
  where
    by : (b : Bool) → is_same_place p x ≡ b → In p (x ∷ xs) → (In p xs → slice_get xs (position p xs) ≡ Some p)
        → slice_get (x ∷ xs) (cond b 0 (suc (position p xs))) ≡ Some p
    by true e j more = ap Some (sym (same_place p x e))
    by false e (inl same) more = let itself : is_same_place p x ≡ true = subst (λ y. is_same_place p y ≡ true) same (same_place_itself p) in absurd cc
    by false e (inr later) more = more later

-- ## The places that the lists of a forest have

-- the place of a node of this kind, below a place where the node n stands
abbrev pub At : (Option Node → Type 0) → Place → Node → Place → Type 0
At P place n q = (r : Place) × (q ≡ place ++ r) × P (node_below (Some n) r)

-- or where the nodes stand as its children from position k on
abbrev pub FromAt : (Option Node → Type 0) → Place → ℕ → Nodes → Place → Type 0
FromAt P place k ns q = (i : ℕ) × (r : Place) × (q ≡ place ++ (k + i) ∷ r) × P (node_below (child_at ns i) r)

-- places at equal positions are equal
shifted : (place r : Place) (a b : ℕ) → a ≡ b → place ++ a ∷ r ≡ place ++ b ∷ r
shifted place r a b e = ap (λ m. place ++ m ∷ r) e

-- what stands below a child stands below the node
child_below : (P : Option Node → Type 0) (place : Place) (t : GroundTask) (number : ℕ) (nodes : Nodes) (q : Place)
    → FromAt P place 0 nodes q → At P place (compound t number nodes) q
child_below P place t number nodes q (i, r, e, is) = (i ∷ r, e ∙ shifted place r (0 + i) i (omega arith), is)

-- what stands below the first child stands below the children
first_child : (P : Option Node → Type 0) (place : Place) (k : ℕ) (n : Node) (ns : Nodes) (q : Place)
    → At P (place ++ k ∷ []) n q → FromAt P place k (node n ns) q
first_child P place k n ns q (r, e, is) = (0, r, e ∙ append_assoc place (k ∷ []) r ∙ shifted place r k (k + 0) (omega arith), is)

-- what stands below a later child stands below the children
later_child : (P : Option Node → Type 0) (place : Place) (k : ℕ) (n : Node) (ns : Nodes) (q : Place)
    → FromAt P place (suc k) ns q → FromAt P place k (node n ns) q
later_child P place k n ns q (i, r, e, is) = (suc i, r, e ∙ shifted place r (suc k + i) (k + suc i) (omega arith), is)

mutual
  -- leaves and steps stand at their places
  pub primitives_stand : (place : Place) (n : Node) → AllByRecursion (At IsPrimitive place n) (primitives place n)
  primitives_stand place (leaf g) = (([], sym (append-nil place), tt), tt)
  primitives_stand place (step literals) = (([], sym (append-nil place), tt), tt)
  primitives_stand place (compound t number nodes) =
      all_map (FromAt IsPrimitive place 0 nodes) (At IsPrimitive place (compound t number nodes)) (primitives_from place 0 nodes)
      (child_below IsPrimitive place t number nodes) (primitives_from_stand place 0 nodes)

  -- the same of trees from the k-th child on
  pub primitives_from_stand : (place : Place) (k : ℕ) (ns : Nodes) → AllByRecursion (FromAt IsPrimitive place k ns) (primitives_from place k ns)
  primitives_from_stand place k no_nodes = tt
  primitives_from_stand place k (node n ns) =
      all_join (FromAt IsPrimitive place k (node n ns)) (primitives (place ++ k ∷ []) n) (primitives_from place (suc k) ns)
      (all_map (At IsPrimitive (place ++ k ∷ []) n) (FromAt IsPrimitive place k (node n ns)) (primitives (place ++ k ∷ []) n)
      (first_child IsPrimitive place k n ns) (primitives_stand (place ++ k ∷ []) n))
      (all_map (FromAt IsPrimitive place (suc k) ns) (FromAt IsPrimitive place k (node n ns)) (primitives_from place (suc k) ns)
      (later_child IsPrimitive place k n ns) (primitives_from_stand place (suc k) ns))

-- a node is compound
abbrev pub IsCompound : Option Node → Type 0
IsCompound None = ⊥
IsCompound (Some (leaf g)) = ⊥
IsCompound (Some (step literals)) = ⊥
IsCompound (Some (compound t number nodes)) = Unit {0}

mutual
  -- compound nodes stand at their places
  pub compounds_stand : (place : Place) (n : Node) → AllByRecursion (At IsCompound place n) (compounds place n)
  compounds_stand place (leaf g) = tt
  compounds_stand place (step literals) = tt
  compounds_stand place (compound t number nodes) = (
    ([], sym (append-nil place), tt),
    all_map (FromAt IsCompound place 0 nodes) (At IsCompound place (compound t number nodes)) (compounds_from place 0 nodes)
        (child_below IsCompound place t number nodes) (compounds_from_stand place 0 nodes),
  )

  -- the same of trees from the k-th child on
  pub compounds_from_stand : (place : Place) (k : ℕ) (ns : Nodes) → AllByRecursion (FromAt IsCompound place k ns) (compounds_from place k ns)
  compounds_from_stand place k no_nodes = tt
  compounds_from_stand place k (node n ns) =
      all_join (FromAt IsCompound place k (node n ns)) (compounds (place ++ k ∷ []) n) (compounds_from place (suc k) ns)
      (all_map (At IsCompound (place ++ k ∷ []) n) (FromAt IsCompound place k (node n ns)) (compounds (place ++ k ∷ []) n)
      (first_child IsCompound place k n ns) (compounds_stand (place ++ k ∷ []) n))
      (all_map (FromAt IsCompound place (suc k) ns) (FromAt IsCompound place k (node n ns)) (compounds_from place (suc k) ns)
      (later_child IsCompound place k n ns) (compounds_from_stand place (suc k) ns))

-- what stands below the trees stands at its place
pub top : (P : Option Node → Type 0) (trees : Nodes) (q : Place) → FromAt P [] 0 trees q → P (node_at trees q)
top P trees q (i, r, e, is) = subst (λ p. P (node_at trees p)) (sym (e ∙ shifted [] r (0 + i) i (omega arith))) is

-- ## Each place of such a node is in the list

-- nothing stands below nothing
not_below : (P : Option Node → Type 0) (r : Place) → (P None → ⊥) → P (node_below None r) → ⊥
not_below P r not h = not (subst P (nothing_below r) h)

mutual
  -- the place of a leaf or step is listed
  primitive_in : (place : Place) (n : Node) (r : Place) → IsPrimitive (node_below (Some n) r) → In (place ++ r) (primitives place n)
  primitive_in place (leaf g) [] h = inl (append-nil place)
  primitive_in place (leaf g) (i ∷ r) h = absurd (not_below IsPrimitive r (λ x. x) h)
  primitive_in place (step literals) [] h = inl (append-nil place)
  primitive_in place (step literals) (i ∷ r) h = absurd (not_below IsPrimitive r (λ x. x) h)
  primitive_in place (compound t number nodes) [] h = absurd h
  primitive_in place (compound t number nodes) (i ∷ r) h =
      subst (λ q. In q (primitives_from place 0 nodes)) (shifted place r (0 + i) i (omega arith)) (primitive_in_from place 0 nodes i r h)

  -- the same of trees from the k-th child on
  primitive_in_from : (place : Place) (k : ℕ) (ns : Nodes) (i : ℕ) (r : Place) → IsPrimitive (node_below (child_at ns i) r)
      → In (place ++ (k + i) ∷ r) (primitives_from place k ns)
  primitive_in_from place k no_nodes i r h = absurd (not_below IsPrimitive r (λ x. x) h)
  primitive_in_from place k (node n ns) zero r h =
      in_left _ (primitives (place ++ k ∷ []) n) (primitives_from place (suc k) ns)
      (subst (λ q. In q (primitives (place ++ k ∷ []) n)) (append_assoc place (k ∷ []) r ∙ shifted place r k (k + 0) (omega arith))
      (primitive_in (place ++ k ∷ []) n r h))
  primitive_in_from place k (node n ns) (suc i) r h =
      in_right _ (primitives (place ++ k ∷ []) n) (primitives_from place (suc k) ns)
      (subst (λ q. In q (primitives_from place (suc k) ns)) (shifted place r (suc k + i) (k + suc i) (omega arith)) (primitive_in_from place (suc k) ns i r h))

mutual
  -- the place of a compound node is listed
  compound_in : (place : Place) (n : Node) (r : Place) → IsCompound (node_below (Some n) r) → In (place ++ r) (compounds place n)
  compound_in place (leaf g) [] h = absurd h
  compound_in place (leaf g) (i ∷ r) h = absurd (not_below IsCompound r (λ x. x) h)
  compound_in place (step literals) [] h = absurd h
  compound_in place (step literals) (i ∷ r) h = absurd (not_below IsCompound r (λ x. x) h)
  compound_in place (compound t number nodes) [] h = inl (append-nil place)
  compound_in place (compound t number nodes) (i ∷ r) h =
      inr (subst (λ q. In q (compounds_from place 0 nodes)) (shifted place r (0 + i) i (omega arith)) (compound_in_from place 0 nodes i r h))

  -- the same of trees from the k-th child on
  compound_in_from : (place : Place) (k : ℕ) (ns : Nodes) (i : ℕ) (r : Place) → IsCompound (node_below (child_at ns i) r)
      → In (place ++ (k + i) ∷ r) (compounds_from place k ns)
  compound_in_from place k no_nodes i r h = absurd (not_below IsCompound r (λ x. x) h)
  compound_in_from place k (node n ns) zero r h =
      in_left _ (compounds (place ++ k ∷ []) n) (compounds_from place (suc k) ns)
      (subst (λ q. In q (compounds (place ++ k ∷ []) n)) (append_assoc place (k ∷ []) r ∙ shifted place r k (k + 0) (omega arith))
      (compound_in (place ++ k ∷ []) n r h))
  compound_in_from place k (node n ns) (suc i) r h =
      in_right _ (compounds (place ++ k ∷ []) n) (compounds_from place (suc k) ns)
      (subst (λ q. In q (compounds_from place (suc k) ns)) (shifted place r (suc k + i) (k + suc i) (omega arith)) (compound_in_from place (suc k) ns i r h))

-- each leaf and step is among their places
pub in_primitives : (trees : Nodes) (p : Place) → IsPrimitive (node_at trees p) → In p (primitives_from [] 0 trees)
in_primitives trees [] h = absurd h
in_primitives trees (i ∷ r) h =
    subst (λ q. In q (primitives_from [] 0 trees)) (shifted [] r (0 + i) i (omega arith)) (primitive_in_from [] 0 trees i r h)

-- each compound node is among their places
pub in_compounds : (trees : Nodes) (p : Place) → IsCompound (node_at trees p) → In p (compounds_from [] 0 trees)
in_compounds trees [] h = absurd h
in_compounds trees (i ∷ r) h =
    subst (λ q. In q (compounds_from [] 0 trees)) (shifted [] r (0 + i) i (omega arith)) (compound_in_from [] 0 trees i r h)

-- what is in a list is in each rearrangement of it
pub in_arranged : (p : Place) (ps qs : List Place) → IsRearrangement ps qs → In p qs → In p ps
in_arranged p [] qs r i = absurd (subst (In p) r i)
in_arranged p (x ∷ ps) qs (left, right, e, r) i = by (in_split p left (x ∷ right) (subst (In p) e i)) (in_arranged p ps (left ++ right) r)
  where
    by : In p left ⊎ In p (x ∷ right) → (In p (left ++ right) → In p ps) → In p (x ∷ ps)
    by (inl j) more = inr (more (in_left p left right j))
    by (inr (inl same)) more = inl same
    by (inr (inr j)) more = inr (more (in_right p left right j))

-- ## The shadow

-- a list is a rearrangement of itself
arranged_itself : {X : Type 0} (xs : List X) → IsRearrangementOf xs xs
arranged_itself [] = refl
arranged_itself (x ∷ xs) = ([], xs, refl, arranged_itself xs)

module _ (naming : Naming) (problem : Problem) (s : Solution) (solves : IsSolution problem s) (names : NamesNodes naming s) where
  -- the node at a place of the solution
  abbrev nodes_at : Place → Option Node
  nodes_at p = node_at s.trees p

  -- each node with a line is among the numbered places
  in_numbered : (p : Place) → HasId (nodes_at p) → In p (numbered_places s)
  in_numbered p h = by (nodes_at p) refl h
    where
      by : (n : Option Node) → nodes_at p ≡ n → HasId n → In p (numbered_places s)
      by None e g = absurd g
      by (Some (leaf task)) e g =
          in_left p _ _
          (in_filter (λ q. is_leaf (nodes_at q)) p s.linearisation
          (in_arranged p s.linearisation _ solves.is_rearrangement (in_primitives s.trees p (subst IsPrimitive (sym e) tt))) (ap is_leaf e))
      by (Some (step literals)) e g = absurd g
      by (Some (compound t number nodes)) e g = in_right p _ _ (in_compounds s.trees p (subst IsCompound (sym e) tt))

  -- no two nodes have one number
  one_to_one : (p q : Place) → HasId (nodes_at p) → HasId (nodes_at q) → id_in s p ≡ id_in s q → p ≡ q
  one_to_one p q hp hq same =
      let at_p = at_position p (numbered_places s) (in_numbered p hp) in
      let at_q = at_position q (numbered_places s) (in_numbered q hq) in
      let both : Some p ≡ Some q = sym at_p ∙ ap (slice_get (numbered_places s)) same ∙ at_q in
      cc

  -- the lines of actions are those of the leaves in sequence
  are_action_lines : (ps : List Place) → AllByRecursion (λ p. IsPrimitive (nodes_at p)) ps
      → AreActionLines naming s.trees (id_in s) ps (map (action_line_at naming s) (filter (λ p. is_leaf (nodes_at p)) ps))
  are_action_lines [] all = end
  are_action_lines (p ∷ ps) all = by (nodes_at p) refl all.0 (are_action_lines ps all.1)
    where
      by : (n : Option Node) → nodes_at p ≡ n → IsPrimitive n
          → AreActionLines naming s.trees (id_in s) ps (map (action_line_at naming s) (filter (λ q. is_leaf (nodes_at q)) ps))
          → AreActionLines naming s.trees (id_in s) (p ∷ ps)
          (map (action_line_at naming s) (cond (is_leaf n) (p ∷ filter (λ q. is_leaf (nodes_at q)) ps) (filter (λ q. is_leaf (nodes_at q)) ps)))
      by None e is more = absurd is
      by (Some (leaf g)) e is more = action_line p ps g _ _ e refl (names p (subst HasId (sym e) tt) ∙ ap (λ n. Some (task_at n)) e) more
      by (Some (step literals)) e is more = no_line p ps _ (subst IsStep (sym e) tt) more
      by (Some (compound t number nodes)) e is more = absurd is

  -- the line of a compound node is its own
  is_decomposition_line : (p : Place) → IsCompound (nodes_at p) → IsDecompositionLine naming s.trees (id_in s) p (decomposition_line_at naming s p)
  is_decomposition_line p h = by (nodes_at p) refl h
    where
      by : (n : Option Node) → nodes_at p ≡ n → IsCompound n → IsDecompositionLine naming s.trees (id_in s) p (decomposition_line_at naming s p)
      by None e g = absurd g
      by (Some (leaf task)) e g = absurd g
      by (Some (step literals)) e g = absurd g
      by (Some (compound t number nodes)) e g = record {
        task = t;
        number = number;
        nodes = nodes;
        stands = e;
        id = refl;
        named = names p (subst HasId (sym e) tt) ∙ ap (λ n. Some (task_at n)) e;
        method = ap (λ n. naming.method_name (task_at n) (number_at n)) e;
        children = subst (IsRearrangementOf (decomposition_line_at naming s p).children) (ap (λ n. ids_of (id_in s) (shown_from p 0 (children_in n))) e)
            (arranged_itself (decomposition_line_at naming s p).children);
      }

  -- the decomposition lines are those of the compound nodes
  are_decomposition_lines : (ps : List Place) → AllByRecursion (λ p. IsCompound (nodes_at p)) ps
      → AreDecompositionLines naming s.trees (id_in s) ps (map (decomposition_line_at naming s) ps)
  are_decomposition_lines [] all = refl
  are_decomposition_lines (p ∷ ps) all = ([], _, map (decomposition_line_at naming s) ps, refl, is_decomposition_line p all.0, are_decomposition_lines ps all.1)

-- a solution's plan file is a shadow of it
pub numbered_is_shadow : (naming : Naming) (problem : Problem) → NumberedIsShadow naming problem
numbered_is_shadow naming problem s solves names = record {
  id_at = id_in s;
  one_to_one = one_to_one naming problem s solves names;
  actions = are_action_lines naming problem s solves names s.linearisation
      (all_arranged _ s.linearisation _ solves.is_rearrangement (all_map _ _ _ (top IsPrimitive s.trees) (primitives_from_stand [] 0 s.trees)));
  roots = arranged_itself _;
  decompositions = are_decomposition_lines naming problem s solves names (compounds_from [] 0 s.trees)
      (all_map _ _ _ (top IsCompound s.trees) (compounds_from_stand [] 0 s.trees));
}
