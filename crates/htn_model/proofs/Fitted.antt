-- The lines of an accepted file have room.
use Rattle.std.proofs.Common.{◌≡◌, ℕ, ◌+◌, List, [], ◌∷◌, ◌++◌, length, map, Option, Some, None, slice_get, inl, inr, sym, refl, ap, ap₂, ◌∙◌, subst, append_assoc, append-nil, arith}
use Rattle.htn_model.specs.State.{State}
use Rattle.htn_model.specs.Problem.{GroundTask, Problem, IsGrounded}
use Rattle.htn_model.specs.Tree.{Node, leaf, step, compound, Nodes, root, roots, Place, node_at, child_at, before, order_of_network, Respects, run}
use Rattle.htn_model.specs.PlanFile.{ActionLine, DecompositionLine, PlanFile, Naming, IsRearrangementOf, IsIn, IsForest}
use Rattle.htn_model.specs.Fits.{PlanTree, action_at, decomposition, PlanTrees, no_plans, plan, child_of, subtask_positions, StandAt, ForestFits}
use Rattle.htn_model.specs.Placement.{Slots, IsPrimitive}
use Rattle.htn_model.specs.Shades.{Shades, AllShade}
use Rattle.htn_model.specs.Shadow.{compounds_from, IsDecompositionLine, AreDecompositionLines, HasId, IsAccepted}
use Rattle.htn_model.specs.Shown.{ShowsTree, ShowTrees, LinesRun}
use Rattle.htn_model.proofs.Ascending.{at_in, in_right}
use Rattle.htn_model.proofs.Numbered.{IsCompound, in_primitives, in_compounds, in_arranged}
use Rattle.htn_model.proofs.Rearranged.{in_wider, in_rearranged, unmapped}
use Rattle.htn_model.proofs.Marked.{at_child, one_line, one_index, kinds_apart, decompositions_distinct, actions_distinct, has_id_at, root_of_child}
use Rattle.htn_model.proofs.Accepted.{shown_ids}
use Rattle.htn_model.proofs.Timed.{slot_in, line_of_leaf, list_keeps}
use Rattle.htn_model.proofs.Shaded.{placed_forests_fit}

-- a node and the line that it shades have one task
pub shaded_root : (naming : Naming) (slots : Slots) (m : Node) (p : PlanTree) → Shades naming slots m p → root m ≡ child_of p
shaded_root naming slots m (action_at g i) s = ap root s.0
shaded_root naming slots m (decomposition t method plans) s = ap root s.2

module _ (naming : Naming) (trees : Nodes) (id_at : Place → ℕ) where
  -- a compound node among the places has a line
  pub compound_has_line : (ps : List Place) (lines : List DecompositionLine) → AreDecompositionLines naming trees id_at ps lines → (p : Place) → IsIn p ps
      → (line : DecompositionLine) × IsIn line lines × IsDecompositionLine naming trees id_at p line
  compound_has_line [] lines all p i = absurd i
  compound_has_line (q ∷ ps) lines (left, line, right, e, is, more) p (inl same) =
      (line, subst (IsIn line) (sym e) (in_right line left (line ∷ right) (inl refl)), subst (λ r. IsDecompositionLine naming trees id_at r line) (sym same) is)
  compound_has_line (q ∷ ps) lines (left, line, right, e, is, more) p (inr i) =
      let (other, there, found) = compound_has_line ps (left ++ right) more p i in
      (other, subst (IsIn other) (sym e) (in_wider other line left right there), found)

-- ## What is shown is shaded

module _ (naming : Naming) (file : PlanFile) (forest : IsForest file) (trees : Nodes) (id_at : Place → ℕ) (slots : Slots)
    (leaf_line : (p : Place) (g : GroundTask) → node_at trees p ≡ Some (leaf g)
    → (line : ActionLine) × (slice_get file.actions (slots p) ≡ Some line) × (line.id ≡ id_at p) × (naming.named line.name line.arguments ≡ Some g))
    (compound_line : (p : Place) → IsCompound (node_at trees p) → (line : DecompositionLine) × IsIn line file.decompositions × IsDecompositionLine naming trees id_at p line) where
  -- the slots below a place
  abbrev below : Place → Slots
  below place q = slots (place ++ q)

  -- the child at each position has the id of the plan's line
  abbrev Finds : Place → Nodes → Type 0
  Finds place nodes = (a : ℕ) → node_at trees (place ++ a ∷ []) ≡ child_at nodes a

  -- a leaf shades the action line with its id
  shade_action : (g : GroundTask) (i id : ℕ) → ShowsTree naming file id (action_at g i) → (place : Place) (m : Node) → node_at trees place ≡ Some m → HasId (Some m)
      → id_at place ≡ id → Shades naming (below place) m (action_at g i)
  shade_action g i id (line, there, is, named) place (leaf t) e h same =
      let (other, stands, is_other, other_named) = leaf_line place t e in
      let index : slots place ≡ i = one_index file.actions (slots place) i other line (actions_distinct file forest) stands there (is_other ∙ same ∙ sym is) in
      let lines : Some other ≡ Some line = sym stands ∙ ap (slice_get file.actions) index ∙ there in
      let alike : other ≡ line = cc in
      let tasks : Some t ≡ Some g = sym other_named ∙ ap (λ l. naming.named l.name l.arguments) alike ∙ named in
      let task : t ≡ g = cc in
      (ap leaf task, ap slots (append-nil place) ∙ index)
  shade_action g i id (line, there, is, named) place (step literals) e h same = absurd h
  shade_action g i id (line, there, is, named) place (compound t number nodes) e h same =
      let (other, listed, found) = compound_line place (subst IsCompound (sym e) tt) in
      absurd (kinds_apart file forest line other (at_in line file.actions i there) listed (is ∙ sym same ∙ sym found.id))

  -- a plan that shows a node's line fits where that node stands
  abbrev Shown : PlanTree → Type 0
  Shown p = (id : ℕ) → ShowsTree naming file id p → (place : Place) (m : Node) → node_at trees place ≡ Some m → HasId (Some m)
      → id_at place ≡ id → Shades naming (below place) m p

  -- so do plans that show the lines of a network's nodes
  abbrev AllShown : PlanTrees → Type 0
  AllShown plans = (ids : List ℕ) → ShowTrees naming file ids plans → (place : Place) (nodes : Nodes) → Finds place nodes → (positions : List ℕ)
      → ((a : ℕ) → IsIn a positions → HasId (child_at nodes a)) → ids ≡ map (λ a. id_at (place ++ a ∷ [])) positions
      → StandAt (roots nodes) positions plans × AllShade naming (below place) nodes positions plans

  -- a compound node shades the line with its id where its children shade theirs
  shade_decomposition : (t : GroundTask) (method : List ℕ) (plans : PlanTrees) → AllShown plans → Shown (decomposition t method plans)
  shade_decomposition t method plans all id (line, there, is, named, is_method, shows) place (leaf g) e h same =
      let (other, stands, is_other, other_named) = leaf_line place g e in
      absurd (kinds_apart file forest other line (at_in other file.actions (slots place) stands) there (is_other ∙ same ∙ sym is))
  shade_decomposition t method plans all id (line, there, is, named, is_method, shows) place (step literals) e h same = absurd h
  shade_decomposition t method plans all id (line, there, is, named, is_method, shows) place (compound u number nodes) e h same =
      let (other, listed, found) = compound_line place (subst IsCompound (sym e) tt) in
      let alike : other ≡ line = one_line other line file.decompositions (decompositions_distinct file forest) listed there (found.id ∙ same ∙ sym is) in
      let both : Some (compound u number nodes) ≡ Some (compound found.task found.number found.nodes) = sym e ∙ found.stands in
      let tasks : u ≡ found.task = cc in
      let numbers : number ≡ found.number = cc in
      let inner : nodes ≡ found.nodes = cc in
      let names : Some found.task ≡ Some t = sym found.named ∙ ap (λ l. naming.named l.task l.arguments) alike ∙ named in
      let name : found.task ≡ t = cc in
      let children : IsRearrangementOf line.children (map (λ a. id_at (place ++ a ∷ [])) (subtask_positions 0 (roots nodes))) =
      subst (λ l. IsRearrangementOf l.children (map (λ a. id_at (place ++ a ∷ [])) (subtask_positions 0 (roots nodes)))) alike
      (subst (λ ns. IsRearrangementOf other.children (map (λ a. id_at (place ++ a ∷ [])) (subtask_positions 0 (roots ns)))) (sym inner)
      (subst (IsRearrangementOf other.children) (shown_ids id_at place 0 found.nodes) found.children)) in
      let (positions, ids, arranged) = unmapped (λ a. id_at (place ++ a ∷ [])) line.children (subtask_positions 0 (roots nodes)) children in
      let shaded = all line.children shows place nodes (λ a. at_child trees place u number nodes a e) positions
      (λ a i. has_id_at nodes a (in_rearranged a positions _ arranged i)) ids in (
        number,
        nodes,
        ap (λ k. compound k number nodes) (tasks ∙ name),
        sym is_method ∙ ap (λ l. l.method) (sym alike) ∙ found.method ∙ ap₂ naming.method_name name (sym numbers),
        positions,
        record { each_once = arranged; stand = shaded.0 },
        shaded.1,
      )

  -- slots below a child
  child_slots : (place : Place) (a : ℕ) → below (place ++ a ∷ []) ≡ (λ q. below place (a ∷ q))
  child_slots place a = λ i q. slots (append_assoc place (a ∷ []) q i)

  -- what is made of nothing
  nothing_mapped : (f : ℕ → ℕ) (xs : List ℕ) → [] ≡ map f xs → xs ≡ []
  nothing_mapped f [] e = refl
  nothing_mapped f (x ∷ xs) e = absurd cc

  -- one plan more
  shade_plan : (p : PlanTree) (plans : PlanTrees) → Shown p → AllShown plans → AllShown (plan p plans)
  shade_plan p plans first others [] shows place nodes finds positions has e = absurd shows
  shade_plan p plans first others (id ∷ ids) shows place nodes finds [] has e = absurd cc
  shade_plan p plans first others (id ∷ ids) shows place nodes finds (a ∷ positions) has e =
      let heads : id ≡ id_at (place ++ a ∷ []) = cc in
      let tails : ids ≡ map (λ b. id_at (place ++ b ∷ [])) positions = cc in
      let more = others ids shows.1 place nodes finds positions (λ b i. has b (inr i)) tails in
      by (child_at nodes a) refl (has a (inl refl)) more heads
    where
      by : (m : Option Node) → child_at nodes a ≡ m → HasId m → StandAt (roots nodes) positions plans × AllShade naming (below place) nodes positions plans
          → id ≡ id_at (place ++ a ∷ [])
          → StandAt (roots nodes) (a ∷ positions) (plan p plans) × AllShade naming (below place) nodes (a ∷ positions) (plan p plans)
      by None there h more heads = absurd h
      by (Some m) there h more heads =
          let shade = first id shows.0 (place ++ a ∷ []) m (finds a ∙ there) h (sym heads) in
          let shades : Shades naming (λ q. below place (a ∷ q)) m p = subst (λ f. Shades naming f m p) (child_slots place a) shade in
          ((root_of_child nodes a m there ∙ ap Some (shaded_root naming _ m p shades), more.0), (m, there, shades, more.1))

  mutual
    -- a plan tree is shaded by the tree that it shows
    pub shade : (p : PlanTree) → Shown p
    shade (action_at g i) = shade_action g i
    shade (decomposition t method plans) = shade_decomposition t method plans (shade_all plans)

    -- and so are plan trees
    pub shade_all : (plans : PlanTrees) → AllShown plans
    shade_all no_plans = λ ids shows place nodes finds positions has e. (nothing_mapped (λ a. id_at (place ++ a ∷ [])) positions (sym shows ∙ e), tt)
    shade_all (plan p plans) = shade_plan p plans (shade p) (shade_all plans)

-- ## An accepted file

-- an accepted file has room
pub accepted_fits : (naming : Naming) (problem : Problem) → IsGrounded problem → (file : PlanFile) (states : ℕ → State) (plans : PlanTrees) → IsForest file
    → LinesRun naming problem file states → ShowTrees naming file file.roots plans → IsAccepted naming problem file
    → ForestFits naming problem states plans (length file.actions)
accepted_fits naming problem grounded file states plans forest runs shows accepted =
    let s = accepted.solution in
    let solves = accepted.solves in
    let shadow = accepted.shadow in
    let slots : Slots = slot_in s.trees 0 s.linearisation in
    let from : (k : ℕ) → slice_get file.actions k ≡ slice_get file.actions (0 + k) = λ k. ap (slice_get file.actions) (let e : k ≡ 0 + k = omega arith in e) in
    let respects : Respects (before problem solves.network.order s.trees) s.linearisation =
    subst (λ o. Respects (before problem o s.trees) s.linearisation) (ap order_of_network solves.is_initial) solves.respects in
    let keeps = list_keeps naming problem file states runs s.trees shadow.id_at solves.network.order s.linearisation solves.reaches_goal.0 solves.is_rearrangement respects shadow.actions
    (subst (λ x. run problem s.trees x s.linearisation ≡ Some solves.reaches_goal.0) (sym runs.starts) solves.reaches_goal.1) in
    let leaf_line : (p : Place) (g : GroundTask) → node_at s.trees p ≡ Some (leaf g)
    → (line : ActionLine) × (slice_get file.actions (slots p) ≡ Some line) × (line.id ≡ shadow.id_at p) × (naming.named line.name line.arguments ≡ Some g) = λ p g e.
    (let l = line_of_leaf naming problem file states runs s.trees shadow.id_at s.linearisation file.actions shadow.actions 0 from p g
    (in_arranged p s.linearisation _ solves.is_rearrangement (in_primitives s.trees p (subst IsPrimitive (sym e) tt))) e in
    (l.line, l.stands, l.is, l.named)) in
    let compound_line : (p : Place) → IsCompound (node_at s.trees p)
    → (line : DecompositionLine) × IsIn line file.decompositions × IsDecompositionLine naming s.trees shadow.id_at p line = λ p h.
    compound_has_line naming s.trees shadow.id_at (compounds_from [] 0 s.trees) file.decompositions shadow.decompositions p (in_compounds s.trees p h) in
    let listed : IsRearrangementOf file.roots (map (λ a. shadow.id_at ([] ++ a ∷ [])) (subtask_positions 0 (roots s.trees))) =
    subst (IsRearrangementOf file.roots) (shown_ids shadow.id_at [] 0 s.trees) shadow.roots in
    let (positions, ids, arranged) = unmapped (λ a. shadow.id_at ([] ++ a ∷ [])) file.roots (subtask_positions 0 (roots s.trees)) listed in
    let shaded = shade_all naming file forest s.trees shadow.id_at slots leaf_line compound_line plans file.roots shows [] s.trees (λ a. refl) positions
    (λ a i. has_id_at s.trees a (in_rearranged a positions _ arranged i)) ids in
    placed_forests_fit naming problem grounded states slots s.number solves.network s.trees positions plans (length file.actions) solves.is_initial solves.are_roots solves.are_trees
    (record { each_once = arranged; stand = shaded.0 }) shaded.1 keeps
