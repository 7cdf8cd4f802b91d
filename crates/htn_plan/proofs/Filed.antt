-- The parts of the plan file of a solution.
use Rattle.std.proofs.Common.{◌≡◌, ℕ, suc, ◌+◌, ◌≤◌, List, [], ◌∷◌, ◌++◌, length, map, filter, Option, refl, ap, ap₂, ◌∙◌, arith}
use Rattle.htn_model.specs.Numbered.{is_leaf, action_line_at, action_places, numbered}
use Rattle.htn_model.specs.PlanFile.{ActionLine, DecompositionLine, PlanFile}
use Rattle.htn_model.specs.Task.{Task}
use Rattle.htn_model.specs.Tree.{Node, leaf, step, compound, Nodes, no_nodes, node, list_of, node_at, Place, Solution}
use Rattle.htn_plan.specs.declared.ids.ActionIds.{ActionIds}
use Rattle.htn_plan.specs.Gathered.{by_number, gather_all, nothing, somes}
use Rattle.htn_plan.specs.Ids.{AreNumbered, first_actions, id_among, id_of}
use Rattle.htn_ground.specs.Naming.{naming_of}
use Rattle.htn_plan.specs.Preorder.{Item, action, task, items, items_from, compound_count}
use Rattle.htn_plan.proofs.Gathering.{gathered_lines, gathered_roots, items_from_count, total}
use Rattle.htn_plan.proofs.Lists.{length_map, take_all}

-- items with the same ids
module _ (f g : Place → Option ℕ) (same : (p : Place) → f p ≡ g p) where
  mutual
    -- the items of a tree hang on the ids of its places alone
    items_same : (place : Place) (n : Node) → items f place n ≡ items g place n
    items_same place (leaf t) = ap (λ id. action id ∷ []) (same place)
    items_same place (step literals) = refl
    items_same place (compound t number nodes) = ap (λ xs. task t number (length (list_of nodes)) ∷ xs) (items_from_same place 0 nodes)

    -- the same of trees from the i-th child on
    pub items_from_same : (place : Place) (i : ℕ) (ns : Nodes) → items_from f place i ns ≡ items_from g place i ns
    items_from_same place i no_nodes = refl
    items_from_same place i (node n ns) = ap₂ ◌++◌ (items_same (place ++ i ∷ []) n) (items_from_same place (suc i) ns)

-- a plan file of its three parts
abbrev pub with_parts : List ActionLine → List ℕ → List DecompositionLine → PlanFile
with_parts actions roots decompositions = record { actions = actions; roots = roots; decompositions = decompositions }

-- the parts that were made are those of the solution's file
pub filed : (t : Task) (s : Solution) (ids : ActionIds) (actions : List ActionLine) (k : ℕ) (xs : List (Item ℕ)) (end : ℕ) (roots : List ℕ) (lines : List DecompositionLine)
    → length s.linearisation ≤ k → AreNumbered t s k actions ids → xs ≡ items_from (id_of ids) [] 0 s.trees → end ≡ length actions + compound_count xs
    → roots ≡ somes (gather_all t (by_number t) end xs nothing).ids → lines ≡ (gather_all t (by_number t) end xs nothing).lines
    → with_parts actions roots lines ≡ numbered (naming_of t) s
filed t s ids actions k xs end roots lines whole (are, each, known) xs_are end_is roots_are lines_are =
    ap (λ ls. with_parts ls roots lines) the_actions
    ∙ ap (λ rs. with_parts (numbered (naming_of t) s).actions rs lines) the_roots
    ∙ ap (λ ds. with_parts (numbered (naming_of t) s).actions (numbered (naming_of t) s).roots ds) the_lines
  where
    all : first_actions s k ≡ action_places s
    all = ap (filter (λ p. is_leaf (node_at s.trees p))) (take_all k s.linearisation whole)

    the_actions : actions ≡ map (action_line_at (naming_of t) s) (action_places s)
    the_actions = are ∙ ap (map (action_line_at (naming_of t) s)) all

    same : (p : Place) → id_of ids p ≡ id_among s (action_places s) p
    same p = known p ∙ ap (λ ps. id_among s ps p) all

    the_items : xs ≡ items_from (λ p. id_among s (action_places s) p) [] 0 s.trees
    the_items = xs_are ∙ items_from_same (id_of ids) (λ p. id_among s (action_places s) p) same [] 0 s.trees

    the_end : end ≡ total s
    the_end =
        let a = ap length the_actions ∙ length_map (action_line_at (naming_of t) s) (action_places s) in
        let b = ap compound_count the_items ∙ items_from_count (λ p. id_among s (action_places s) p) [] 0 s.trees in
        omega (arith, a, b, end_is)

    the_gathered : gather_all t (by_number t) end xs nothing ≡ gather_all t (by_number t) (total s) (items_from (λ p. id_among s (action_places s) p) [] 0 s.trees) nothing
    the_gathered = ap₂ (λ n ys. gather_all t (by_number t) n ys nothing) the_end the_items

    the_roots : roots ≡ (numbered (naming_of t) s).roots
    the_roots = roots_are ∙ ap (λ b. somes b.ids) the_gathered ∙ gathered_roots t s

    the_lines : lines ≡ (numbered (naming_of t) s).decompositions
    the_lines = lines_are ∙ ap (λ b. b.lines) the_gathered ∙ gathered_lines t s
