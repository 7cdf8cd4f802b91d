-- The plan trees of a forest's lines, by the lines' numbers.
use Rattle.std.proofs.Common.{◌≡◌, ℕ, zero, suc, ◌+◌, ◌-◌, ◌≤◌, ◌<◌, cond, List, [], ◌∷◌, length, map, get_or, Some, slice_get, inl, inr, refl, sym, ap, ap₂, ◌∙◌, subst, arith}
use Rattle.std.proofs.lemmas.Bool.{lt-ltb, le-ltb}
use Rattle.std.proofs.lemmas.Option.{slice_get_within}
use Rattle.htn_model.specs.Problem.{GroundTask}
use Rattle.htn_model.specs.PlanFile.{DecompositionLine, PlanFile, Naming, IsIn, IsForest, IsReached, from_root, from_parent, defined_ids, decomposition_ids}
use Rattle.htn_model.specs.Fits.{PlanTree, action_at, decomposition, PlanTrees, no_plans, plan}
use Rattle.htn_model.specs.Shown.{ShowsTree, ShowTrees}
use Rattle.htn_model.proofs.Ascending.{in_at, at_in}
use Rattle.htn_model.proofs.Marked.{one_line, kinds_apart, decompositions_distinct}
use Rattle.htn_model.proofs.Planted.{AreNamedLines, IsWithin, AreWithin, Tree, root_tree}
use Rattle.plan_text.specs.Forest.{Forest, IsForestOf}
use Rattle.plan_text.specs.Numbers.{AreNumbersOf}
use Rattle.plan_text.specs.Reached.{children_at}
use Rattle.plan_text.specs.Plans.{trees_of, method_at, tree_within, tree_at, AreTasks, ForestsAreTrees}
use Rattle.plan_text.proofs.Listed.{action_id_at, children_numbers, line_there, decomposition_id_at, one_number, past_actions}

-- ## Depth

mutual
  -- what is no deeper than a depth is no deeper than a greater one
  deeper : (depth : ℕ) (p : PlanTree) → IsWithin depth p → IsWithin (suc depth) p
  deeper depth (action_at g i) within = tt
  deeper zero (decomposition t method plans) within = absurd within
  deeper (suc depth) (decomposition t method plans) within = all_deeper depth plans within

  -- plans within a depth are within one more
  all_deeper : (depth : ℕ) (plans : PlanTrees) → AreWithin depth plans → AreWithin (suc depth) plans
  all_deeper depth no_plans within = tt
  all_deeper depth (plan p plans) within = (deeper depth p within.0, all_deeper depth plans within.1)

module _ (naming : Naming) (file : PlanFile) (forest : Forest) (task_at : ℕ → GroundTask) (is : IsForestOf file forest) (named : AreTasks naming file task_at) where
  -- the file's lines are a forest
  abbrev is_forest : IsForest file
  is_forest = is.is_forest

  -- the ids of the lines, by their numbers
  abbrev ids : List ℕ
  ids = defined_ids file

  -- how many action lines there are
  abbrev actions : ℕ
  actions = length file.actions

  -- how deep a tree can be
  abbrev most : ℕ
  most = length file.decompositions

  -- the lines name tasks
  are_named : AreNamedLines naming file
  are_named = record {
    actions = λ line i. (let (k, at) = in_at line file.actions i in (task_at k, named.actions k line at));
    decompositions = λ line i. (let (j, at) = in_at line file.decompositions i in (task_at (actions + j), named.decompositions j line at));
  }

  -- the tree of the line with an id
  abbrev LineTree : ℕ → Type 0
  LineTree id = Tree file is_forest naming are_named id most

  -- the tree of one of several lines
  one_of : (id : ℕ) (listed : List ℕ) (plans : PlanTrees) (depth : ℕ) → ShowTrees naming file listed plans → AreWithin depth plans → IsIn id listed
      → Tree file is_forest naming are_named id depth
  one_of id [] plans depth show within i = absurd i
  one_of id (x ∷ listed) no_plans depth show within i = absurd cc
  one_of id (x ∷ listed) (plan p plans) depth show within (inl same) =
      record { tree = p; shows = subst (λ y. ShowsTree naming file y p) (sym same) show.0; within = within.0 }
  one_of id (x ∷ listed) (plan p plans) depth show within (inr i) = one_of id listed plans depth show.1 within.1 i

  -- the tree of a child
  child_tree : (id : ℕ) (line : DecompositionLine) → IsIn line file.decompositions → IsIn id line.children → (p : PlanTree) → ShowsTree naming file line.id p → (depth : ℕ) → IsWithin depth p
      → Tree file is_forest naming are_named id depth
  child_tree id line stands below (action_at g k) (other, at, same, names) depth within = absurd (kinds_apart file is_forest other line (at_in other file.actions k at) stands same)
  child_tree id line stands below (decomposition t method plans) shows zero within = absurd within
  child_tree id line stands below (decomposition t method plans) (other, there, same, names, is_method, show) (suc depth) within =
      let lines : other ≡ line = one_line other line file.decompositions (decompositions_distinct file is_forest) there stands same in
      let t = one_of id other.children plans depth show within (subst (λ l. IsIn id l.children) (sym lines) below) in
      record { tree = t.tree; shows = t.shows; within = deeper depth t.tree t.within }

  -- each line that is reached has one
  reached_tree : (id : ℕ) → IsReached file id → LineTree id
  reached_tree id (from_root _ i) = root_tree file is_forest naming are_named id i
  reached_tree id (from_parent _ line stands above below) = let t = reached_tree line.id above in child_tree id line stands below t.tree t.shows most t.within

  -- ## By numbers

  -- a line's method at its place
  method_is : (lines : List DecompositionLine) (j : ℕ) (line : DecompositionLine) → slice_get lines j ≡ Some line → get_or (map (λ l. l.method) lines) j [] ≡ line.method
  method_is [] j line h = absurd cc
  method_is (l ∷ lines) zero line h = let same : l ≡ line = cc in ap (λ x. x.method) same
  method_is (l ∷ lines) (suc j) line h = method_is lines j line h

  -- the trees within a depth, by line number
  abbrev built : ℕ → ℕ → PlanTree
  built depth = tree_within depth task_at file forest

  -- the tree of an action line
  built_action : (depth i : ℕ) → i < actions → built depth i ≡ action_at (task_at i) i
  built_action zero i h = refl
  built_action (suc depth) i h =
      ap (λ b. cond b (action_at (task_at i) i) (decomposition (task_at i) (method_at file i) (trees_of (built depth) (children_at actions forest.children i)))) (lt-ltb i actions h)

  -- the tree of a decomposition line
  built_decomposition : (depth i : ℕ) → actions ≤ i → built (suc depth) i ≡ decomposition (task_at i) (method_at file i) (trees_of (built depth) (children_at actions forest.children i))
  built_decomposition depth i h =
      ap (λ b. cond b (action_at (task_at i) i) (decomposition (task_at i) (method_at file i) (trees_of (built depth) (children_at actions forest.children i)))) (le-ltb i actions h)

  -- the numbers of a line's children
  children_are : (j : ℕ) (line : DecompositionLine) → slice_get file.decompositions j ≡ Some line → AreNumbersOf ids (children_at actions forest.children (actions + j)) line.children
  children_are j line at =
      let high : actions ≤ actions + j = omega arith in
      let off : actions + j - actions ≡ j = omega arith in
      let same : children_at actions forest.children (actions + j) ≡ get_or forest.children j [] =
      ap (λ b. cond b [] (get_or forest.children (actions + j - actions) [])) (le-ltb (actions + j) actions high) ∙ ap (λ k. get_or forest.children k []) off in
      subst (λ xs. AreNumbersOf ids xs line.children) (sym same) (children_numbers ids forest.children file.decompositions is.children j line at)

  -- one option holds one task
  some_task : (t u : GroundTask) → Some t ≡ Some u → t ≡ u
  some_task t u e = cc

  mutual
    -- the tree that a line shows is the one that is built for its number
    same_tree : (p : PlanTree) (depth i id : ℕ) → IsWithin depth p → slice_get ids i ≡ Some id → ShowsTree naming file id p → built depth i ≡ p
    same_tree (action_at g k) depth i id within at (line, stands, is_id, names) =
        let here : slice_get ids k ≡ Some id = action_id_at file.actions (decomposition_ids file.decompositions) k line stands ∙ ap Some is_id in
        let index : i ≡ k = one_number ids is_forest.defined_once i k id at here in
        let low : i < actions = subst (λ n. n < actions) (sym index) (slice_get_within file.actions k line stands) in
        let task : task_at i ≡ g = ap task_at index ∙ some_task (task_at k) g (sym (named.actions k line stands) ∙ names) in
        built_action depth i low ∙ ap₂ action_at task index
    same_tree (decomposition t method plans) zero i id within at shows = absurd within
    same_tree (decomposition t method plans) (suc depth) i id within at (line, there, is_id, names, is_method, show) =
        let (j, stands) = in_at line file.decompositions there in
        let here : slice_get ids (actions + j) ≡ Some id =
        past_actions file.actions (decomposition_ids file.decompositions) j ∙ decomposition_id_at file.decompositions j line stands ∙ ap Some is_id in
        let index : i ≡ actions + j = one_number ids is_forest.defined_once i (actions + j) id at here in
        let off : actions + j - actions ≡ j = omega arith in
        let task : task_at (actions + j) ≡ t = some_task (task_at (actions + j)) t (sym (named.decompositions j line stands) ∙ names) in
        let by : method_at file (actions + j) ≡ method = ap (λ k. get_or (map (λ l. l.method) file.decompositions) k []) off ∙ method_is file.decompositions j line stands ∙ is_method in
        let below : trees_of (built depth) (children_at actions forest.children (actions + j)) ≡ plans =
        same_trees plans depth (children_at actions forest.children (actions + j)) line.children within (children_are j line stands) show in
        ap (built (suc depth)) index ∙ built_decomposition depth (actions + j) (omega arith)
        ∙ ap₂ (λ u m. decomposition u m (trees_of (built depth) (children_at actions forest.children (actions + j)))) task by ∙ ap (decomposition t method) below

    -- the trees by line numbers are those that the lines show
    same_trees : (plans : PlanTrees) (depth : ℕ) (numbers listed : List ℕ) → AreWithin depth plans → AreNumbersOf ids numbers listed → ShowTrees naming file listed plans
        → trees_of (built depth) numbers ≡ plans
    same_trees no_plans depth [] listed within are show = refl
    same_trees no_plans depth (n ∷ numbers) listed within are show = let none = are ∙ ap (map Some) show in absurd cc
    same_trees (plan p plans) depth numbers [] within are show = absurd show
    same_trees (plan p plans) depth [] (id ∷ listed) within are show = absurd cc
    same_trees (plan p plans) depth (n ∷ numbers) (id ∷ listed) within are show =
        let head : slice_get ids n ≡ Some id = cc in
        let tail : AreNumbersOf ids numbers listed = cc in
        ap₂ plan (same_tree p depth n id within.0 head show.0) (same_trees plans depth numbers listed within.1 tail show.1)

  -- a line's tree is the one that its number has
  line_tree : (i id : ℕ) → slice_get ids i ≡ Some id → (t : LineTree id) × (tree_at task_at file forest i ≡ t.tree)
  line_tree i id at =
      let t = reached_tree id (is_forest.reached id (at_in id ids i at)) in
      (t, same_tree t.tree most i id t.within at t.shows)

  -- listed lines show the trees of their numbers
  show_all : (numbers listed : List ℕ) → AreNumbersOf ids numbers listed → ShowTrees naming file listed (trees_of (tree_at task_at file forest) numbers)
  show_all [] [] are = refl
  show_all [] (id ∷ listed) are = absurd cc
  show_all (n ∷ numbers) [] are = absurd cc
  show_all (n ∷ numbers) (id ∷ listed) are =
      let head : slice_get ids n ≡ Some id = cc in
      let tail : AreNumbersOf ids numbers listed = cc in
      let found = line_tree n id head in
      (subst (ShowsTree naming file id) (sym found.1) found.0.shows, show_all numbers listed tail)

  -- below a line stand the trees of its children
  below_line : (j : ℕ) (line : DecompositionLine) → slice_get file.decompositions j ≡ Some line → (i : ℕ) → i ≡ actions + j
      → tree_at task_at file forest i ≡ decomposition (task_at i) (method_at file i) (trees_of (tree_at task_at file forest) (children_at actions forest.children i))
  below_line j line stands i index = by most refl
    where
      by : (n : ℕ) → most ≡ n → tree_at task_at file forest i ≡ decomposition (task_at i) (method_at file i) (trees_of (tree_at task_at file forest) (children_at actions forest.children i))
      by zero none = let low = slice_get_within file.decompositions j line stands in absurd (omega arith)
      by (suc depth) all =
          let at : slice_get ids i ≡ Some line.id = ap (slice_get ids) index ∙ past_actions file.actions (decomposition_ids file.decompositions) j ∙ decomposition_id_at file.decompositions j line stands in
          let t = reached_tree line.id (is_forest.reached line.id (at_in line.id ids i at)) in
          let whole : tree_at task_at file forest i ≡ decomposition (task_at i) (method_at file i) (trees_of (built depth) (children_at actions forest.children i)) =
          ap (λ n. built n i) all ∙ built_decomposition depth i (omega arith) in
          whole ∙ ap (decomposition (task_at i) (method_at file i))
          (shallow t.tree depth all (subst (λ n. IsWithin n t.tree) all t.within) t.shows
          (children_at actions forest.children i) line stands_in (subst (λ k. AreNumbersOf ids (children_at actions forest.children k) line.children) (sym index) (children_are j line stands)))
        where
          stands_in : IsIn line file.decompositions
          stands_in = at_in line file.decompositions j stands

          shallow : (p : PlanTree) (depth : ℕ) → most ≡ suc depth → IsWithin (suc depth) p → ShowsTree naming file line.id p → (numbers : List ℕ) (l : DecompositionLine) → IsIn line file.decompositions
              → AreNumbersOf ids numbers line.children → trees_of (built depth) numbers ≡ trees_of (tree_at task_at file forest) numbers
          shallow (action_at g k) depth all within (other, at, same, names) numbers l stands are = absurd (kinds_apart file is_forest other line (at_in other file.actions k at) stands same)
          shallow (decomposition t method plans) depth all within (other, there, same, names, is_method, show) numbers l stands are =
              let lines : other ≡ line = one_line other line file.decompositions (decompositions_distinct file is_forest) there stands same in
              each_alike plans numbers line.children within are (subst (λ x. ShowTrees naming file x.children plans) lines show)
            where
              each_alike : (plans : PlanTrees) (numbers listed : List ℕ) → AreWithin depth plans → AreNumbersOf ids numbers listed → ShowTrees naming file listed plans
                  → trees_of (built depth) numbers ≡ trees_of (tree_at task_at file forest) numbers
              each_alike no_plans [] listed within are show = refl
              each_alike no_plans (n ∷ numbers) listed within are show = let none = are ∙ ap (map Some) show in absurd cc
              each_alike (plan p plans) numbers [] within are show = absurd show
              each_alike (plan p plans) [] (id ∷ listed) within are show = refl
              each_alike (plan p plans) (n ∷ numbers) (id ∷ listed) within are show =
                  let head : slice_get ids n ≡ Some id = cc in
                  let tail : AreNumbersOf ids numbers listed = cc in
                  ap₂ plan (same_tree p depth n id within.0 head show.0 ∙ sym (same_tree p most n id (subst (λ m. IsWithin m p) (sym all) (deeper depth p within.0)) head show.0))
                  (each_alike plans numbers listed within.1 tail show.1)

-- the lines of a forest, each with its task, are trees by their numbers
pub forests_are_trees : (naming : Naming) → ForestsAreTrees naming
forests_are_trees naming file forest task_at is named = record {
  action = λ i h. built_action naming file forest task_at is named (length file.decompositions) i h;
  decomposition = λ i low high.
      (let (line, stands) = line_there file.decompositions (i - length file.actions) (omega arith) in
      below_line naming file forest task_at is named (i - length file.actions) line stands i (omega arith));
  roots = show_all naming file forest task_at is named forest.roots file.roots is.roots;
}
