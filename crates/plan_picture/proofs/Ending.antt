-- What is below a line of a forest ends.
use Rattle.std.proofs.Common.{◌≡◌, ℕ, zero, suc, ◌+◌, ◌-◌, ◌<◌, ◌≤◌, Bool, true, false, cond, ltb, List, [], ◌∷◌, length, get_or, Some, ◌⊎◌, inl, inr, refl, sym, ap, ◌∙◌, subst, arith}
use Rattle.std.proofs.lemmas.Bool.{cases_lt, lt-ltb, le-ltb}
use Rattle.std.proofs.lemmas.List.{get_or_past}
use Rattle.std.proofs.lemmas.Option.{slice_get_within}
use Rattle.htn_model.specs.Problem.{GroundTask}
use Rattle.htn_model.specs.PlanFile.{Word, PlanFile, Naming, IsIn, defined_ids}
use Rattle.htn_model.specs.Fits.{PlanTree, action_at, decomposition, PlanTrees, no_plans, plan}
use Rattle.htn_model.proofs.Planted.{IsWithin, AreWithin}
use Rattle.plan_text.specs.Forest.{Forest, IsForestOf}
use Rattle.plan_text.specs.Reached.{children_at, IsReachedFrom}
use Rattle.plan_text.specs.Plans.{trees_of, method_at, tree_within, tree_at, AreTasks, AreTrees}
use Rattle.plan_text.proofs.Listed.{as_many_lists, children_numbers, of_number, line_there}
use Rattle.plan_text.proofs.Bridged.{line_count, forest_reaches}
use Rattle.plan_text.proofs.Planting.{forests_are_trees}
use Rattle.plan_picture.proofs.Ahead.{Ends}

-- ## Trees within a depth

trees_within : (tree : ℕ → PlanTree) (depth : ℕ) → ((line : ℕ) → IsWithin depth (tree line)) → (lines : List ℕ) → AreWithin depth (trees_of tree lines)
trees_within tree depth each [] = tt
trees_within tree depth each (line ∷ lines) = (each line, trees_within tree depth each lines)

either_within : (depth : ℕ) (b : Bool) (p q : PlanTree) → IsWithin depth p → IsWithin depth q → IsWithin depth (cond b p q)
either_within depth true p q h k = h
either_within depth false p q h k = k

built_within : (task_at : ℕ → GroundTask) (file : PlanFile) (forest : Forest) (depth line : ℕ) → IsWithin depth (tree_within depth task_at file forest line)
built_within task_at file forest zero line = tt
built_within task_at file forest (suc depth) line =
    either_within (suc depth) (ltb line (length file.actions)) (action_at (task_at line) line)
    (decomposition (task_at line) (method_at file line) (trees_of (tree_within depth task_at file forest) (children_at (length file.actions) forest.children line))) tt
    (trees_within (tree_within depth task_at file forest) depth (built_within task_at file forest depth) (children_at (length file.actions) forest.children line))

module _ (file : PlanFile) (forest : Forest) (is : IsForestOf file forest) where
  -- how many action lines there are
  abbrev actions : ℕ
  actions = length file.actions

  -- the children of each line
  abbrev below : ℕ → List ℕ
  below = children_at actions forest.children

  -- how many lines there are
  abbrev count : ℕ
  count = actions + length file.decompositions

  ids_count : length (defined_ids file) ≡ count
  ids_count = line_count file

  -- an action line has no children
  pub no_children : (line : ℕ) → line < actions → below line ≡ []
  no_children line low = ap (λ b. cond b [] (get_or forest.children (line - actions) [])) (lt-ltb line actions low)

  -- the children of another are listed for it
  its_children : (line : ℕ) → actions ≤ line → below line ≡ get_or forest.children (line - actions) []
  its_children line high = ap (λ b. cond b [] (get_or forest.children (line - actions) [])) (le-ltb line actions high)

  -- roots are lines
  pub roots_within : (line : ℕ) → IsIn line forest.roots → line < count
  roots_within line i =
      let (id, there, at) = of_number (defined_ids file) forest.roots file.roots is.roots line i in
      let low = slice_get_within (defined_ids file) line id at in
      let many = ids_count in
      omega arith

  -- and so are children
  pub children_within : (line child : ℕ) → IsIn child (below line) → child < count
  children_within line child i = by (cases_lt line actions)
    where
      listed : actions ≤ line → (line - actions < length file.decompositions) ⊎ (length file.decompositions ≤ line - actions) → child < count
      listed high (inl low) =
          let (l, at) = line_there file.decompositions (line - actions) low in
          let (id, there, here) =
          of_number (defined_ids file) (get_or forest.children (line - actions) []) l.children
          (children_numbers (defined_ids file) forest.children file.decompositions is.children (line - actions) l at) child
          (subst (IsIn child) (its_children line high) i) in
          let within = slice_get_within (defined_ids file) child id here in
          let many = ids_count in
          omega arith
      listed high (inr past) =
          let many = as_many_lists (defined_ids file) forest.children file.decompositions is.children in
          let none : below line ≡ [] = its_children line high ∙ get_or_past forest.children (line - actions) [] (omega arith) in
          absurd (subst (IsIn child) none i)

      by : (line < actions) ⊎ (actions ≤ line) → child < count
      by (inl low) = absurd (subst (IsIn child) (no_children line low) i)
      by (inr high) = listed high (cases_lt (line - actions) (length file.decompositions))

  -- each line is reached
  pub all_reached : (line : ℕ) → line < length (defined_ids file) → IsReachedFrom actions forest.roots forest.children line
  all_reached line low = forest_reaches file is.is_forest.defined_once forest.roots forest.children is.roots is.children is.is_forest line low

  -- ## Trees for whatever tasks
  abbrev task_of : ℕ → GroundTask
  task_of line = record { name = 0; arguments = [] }

  any_naming : Naming
  any_naming = record {
    named = λ name arguments. Some (record { name = 0; arguments = [] });
    task_name = λ t. [];
    argument_names = λ t. [];
    method_name = λ t k. [];
  }

  -- the tree of a line
  abbrev tree : ℕ → PlanTree
  tree = tree_at task_of file forest

  are_tasks : AreTasks any_naming file task_of
  unfolding any_naming
  are_tasks = record { actions = λ i line h. refl; decompositions = λ j line h. refl }

  are_trees : AreTrees any_naming file forest task_of
  are_trees = forests_are_trees any_naming file forest task_of is are_tasks

  one_method : (t u : GroundTask) (m n : Word) (ps qs : PlanTrees) → decomposition t m ps ≡ decomposition u n qs → ps ≡ qs
  one_method t u m n ps qs e = cc

  apart : (t u : GroundTask) (k : ℕ) (m : Word) (ps : PlanTrees) → action_at t k ≡ decomposition u m ps → ⊥
  apart t u k m ps e = cc

  sym_apart : (t u : GroundTask) (k : ℕ) (m : Word) (ps : PlanTrees) → decomposition t m ps ≡ action_at u k → ⊥
  sym_apart t u k m ps e = cc

  one_tree : (p q : PlanTree) (ps qs : PlanTrees) → plan p ps ≡ plan q qs → (p ≡ q) × (ps ≡ qs)
  one_tree p q ps qs e = (cc, cc)

  some_tree : (p : PlanTree) (ps : PlanTrees) → plan p ps ≡ no_plans → ⊥
  some_tree p ps e = cc

  mutual
    ends_at : (p : PlanTree) (depth line : ℕ) → IsWithin depth p → line < count → tree line ≡ p → Ends below (suc depth) line
    ends_at (action_at g k) depth line within low same =
        elim (cases_lt line actions) [
          | inl action ↦ (λ child i. absurd (subst (IsIn child) (no_children line action) i))
          | inr high ↦ absurd (sym_apart (task_of line) g k (method_at file line) (trees_of tree (below line)) (sym (are_trees.decomposition line high low) ∙ same))
        ]
    ends_at (decomposition t m plans) zero line within low same = absurd within
    ends_at (decomposition t m plans) (suc depth) line within low same =
        elim (cases_lt line actions) [
          | inl action ↦ absurd (apart (task_of line) t line m plans (sym (are_trees.action line action) ∙ same))
          | inr high ↦ ends_all plans depth (below line) within (children_within line)
              (one_method (task_of line) t (method_at file line) m (trees_of tree (below line)) plans (sym (are_trees.decomposition line high low) ∙ same))
        ]

    ends_all : (plans : PlanTrees) (depth : ℕ) (lines : List ℕ) → AreWithin depth plans → ((line : ℕ) → IsIn line lines → line < count) → trees_of tree lines ≡ plans
        → (line : ℕ) → IsIn line lines → Ends below (suc depth) line
    ends_all plans depth [] within low same line i = absurd i
    ends_all no_plans depth (l ∷ lines) within low same line i = absurd (some_tree (tree l) (trees_of tree lines) same)
    ends_all (plan p plans) depth (l ∷ lines) within low same line (inl here) =
        subst (Ends below (suc depth)) (sym here) (ends_at p depth l within.0 (low l (inl refl)) (one_tree (tree l) p (trees_of tree lines) plans same).0)
    ends_all (plan p plans) depth (l ∷ lines) within low same line (inr i) =
        ends_all plans depth lines within.1 (λ k j. low k (inr j)) (one_tree (tree l) p (trees_of tree lines) plans same).1 line i

  -- what is below a line ends within as many lines as there are decomposition lines, and one
  pub line_ends : (line : ℕ) → line < count → Ends below (suc (length file.decompositions)) line
  line_ends line low = ends_at (tree line) (length file.decompositions) line (built_within task_of file forest (length file.decompositions) line) low refl
