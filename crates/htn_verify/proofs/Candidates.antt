-- The trees of placed lines, and the networks that may fit them.
use Rattle.std.proofs.Common.{◌≡◌, ℕ, zero, suc, ◌+◌, ◌-◌, ◌≤◌, ◌<◌, Bool, true, false, cond, ltb, List, [], ◌∷◌, length, map, get_or, Option, Some, None, slice_get, refl, sym, ap, ◌∙◌, subst, arith}
use Rattle.std.proofs.lemmas.Bool.{le-ltb}
use Rattle.std.proofs.lemmas.List.{get_or_default}
use Rattle.std.proofs.lemmas.Option.{slice_get_read}
use Rattle.htn_ground.specs.Naming.{naming_of}
use Rattle.htn_model.specs.Grounding.{problem_of}
use Rattle.htn_model.specs.Fits.{PlanTree, action_at, decomposition, PlanTrees, NetworkFits}
use Rattle.htn_model.specs.Literal.{Literal}
use Rattle.htn_model.specs.PlanFile.{ActionLine, DecompositionLine, IsIn, PlanFile, Word}
use Rattle.htn_model.specs.Problem.{GroundTask, Network}
use Rattle.htn_model.specs.Task.{Task}
use Rattle.plan_text.specs.Forest.{Forest}
use Rattle.plan_text.specs.Plans.{method_at, tree_at, tree_within, trees_of}
use Rattle.plan_text.specs.Reached.{children_at}
use Rattle.plan_lines.specs.Fitting.{AreToFit}
use Rattle.plan_lines.specs.Lines.{HasSubtasks, IsNamedInstance}
use Rattle.plan_lines.specs.Lines.{IsInitial as IsInitialOf}
use Rattle.plan_room.specs.Lines.{AreCandidates, IsInitial, IsNetworkOf, IsNextGap, Lines, plans_of, task_of}
use Rattle.plan_lines.specs.Turns
use Rattle.plan_lines.specs.Turns.{History, literals_truth}
use Rattle.htn_verify.specs.Placed.{ArePlaced, placed_lines}
use Rattle.htn_verify.specs.Tasks.{task_at}
use Rattle.htn_verify.proofs.Fitting.{has_subtasks, steps_may_hold}

-- the task of a line's tree, however deep it is built
task_within : (depth : ℕ) (task_of_line : ℕ → GroundTask) (file : PlanFile) (forest : Forest) (i : ℕ) → task_of (tree_within depth task_of_line file forest i) ≡ task_of_line i
task_within zero task_of_line file forest i = refl
task_within (suc depth) task_of_line file forest i = by (ltb i (length file.actions))
  where
    by : (b : Bool) → task_of (cond b (action_at (task_of_line i) i) (decomposition (task_of_line i) (method_at file i)
        (trees_of (tree_within depth task_of_line file forest) (children_at (length file.actions) forest.children i)))) ≡ task_of_line i
    by true = refl
    by false = refl

-- the task of a line's tree is the line's
pub task_is : (task_of_line : ℕ → GroundTask) (file : PlanFile) (forest : Forest) (i : ℕ) → task_of (tree_at task_of_line file forest i) ≡ task_of_line i
task_is task_of_line file forest i = task_within (length file.decompositions) task_of_line file forest i

-- lines in turn have the tasks that their trees have
tasks_are : (task_of_line : ℕ → GroundTask) (file : PlanFile) (forest : Forest) (lines : List ℕ)
    → map (λ c. task_of (tree_at task_of_line file forest c)) lines ≡ map task_of_line lines
tasks_are task_of_line file forest lines = ap (λ f. map f lines) (λ i c. task_is task_of_line file forest c i)

-- the method in a tree
method_in : Word → PlanTree → Word
method_in none (action_at g i) = none
method_in none (decomposition t method plans) = method

-- a decomposition line's tree
tree_there : (n : ℕ) (task_of_line : ℕ → GroundTask) (file : PlanFile) (forest : Forest) (i : ℕ) → length file.actions ≤ i → i < length file.actions + n
    → (plans : PlanTrees) × (tree_within n task_of_line file forest i ≡ decomposition (task_of_line i) (method_at file i) plans)
tree_there zero task_of_line file forest i high low = absurd (omega arith)
tree_there (suc depth) task_of_line file forest i high low =
    let plans = trees_of (tree_within depth task_of_line file forest) (children_at (length file.actions) forest.children i) in
    (plans, ap (λ b. cond b (action_at (task_of_line i) i) (decomposition (task_of_line i) (method_at file i) plans)) (le-ltb i (length file.actions) high))

module _ (t : Task) (file : PlanFile) (forest : Forest) (tasks : List GroundTask) (h : History) (placed : ArePlaced t file forest tasks h) where
  -- the lines
  abbrev lines_placed : Lines
  lines_placed = placed_lines t file forest tasks

  -- of networks that are to fit, those that have room for lines are there
  listed : (IsOne : Network → Type 0) (lines : List ℕ) (networks : List Network) → AreToFit h IsOne (map (task_at tasks) lines) networks → (network : Network) → IsOne network
      → (g k : ℕ) → k ≤ length file.actions → NetworkFits (naming_of t) (problem_of t) lines_placed.states network (plans_of lines_placed.plan_of lines) g k → IsIn network networks
  listed IsOne lines networks are network one g k low fits =
      let last = placed.last in
      are.all network one (subst (λ ts. HasSubtasks ts network) (tasks_are (task_at tasks) file forest lines) (has_subtasks lines_placed lines network g k fits))
      (steps_may_hold lines_placed lines network g k fits h (omega arith) (λ gap within literals. placed.states gap (omega arith) literals))

  -- what is to fit a line's children is what may fit the line
  pub line_candidates : (i : ℕ) (networks : List Network) → length file.actions ≤ i → i < length tasks
      → AreToFit h (IsNamedInstance t (task_at tasks i) (method_at file i)) (map (task_at tasks) (lines_placed.children i)) networks
      → AreCandidates lines_placed (IsNetworkOf lines_placed i) (lines_placed.children i) networks
  unfolding method_in
  line_candidates i networks high low are =
      let many = placed.many in
      let (plans, tree) = tree_there (length file.decompositions) (task_at tasks) file forest i high (omega arith) in
      record {
        each = λ network there. (let (number, at, named) = are.each network there in (task_at tasks i, method_at file i, plans, number, tree, at, named));
        all = λ network (u, method, others, number, is, at, named) g k within fits.
            (let same = sym is ∙ tree in
            let task_same : u ≡ task_at tasks i = ap task_of same in
            let method_same : method ≡ method_at file i = ap (method_in []) same in
            listed (IsNamedInstance t (task_at tasks i) (method_at file i)) (lines_placed.children i) networks are network
            (number, subst (λ v. slice_get ((problem_of t).methods_of v) number ≡ Some network) task_same at, sym method_same ∙ named ∙ ap (λ v. (naming_of t).method_name v number) task_same)
            g k within fits);
      }

  -- what is to fit the roots is what may fit them
  pub initial_candidates : (networks : List Network) → AreToFit h (IsInitialOf t) (map (task_at tasks) forest.roots) networks
      → AreCandidates lines_placed (IsInitial lines_placed) forest.roots networks
  initial_candidates networks are = record {
    each = are.each;
    all = λ network one g k within fits. listed (IsInitialOf t) forest.roots networks are network one g k within fits;
  }

  -- the next gap of the history is that of the states, up to the last one
  pub next_same : (literals : List Literal) (from last : ℕ) (r : Option ℕ) → last ≤ length file.actions → Turns.IsNextGap (literals_truth h literals) from last r
      → IsNextGap lines_placed.states last literals from r
  next_same literals from last None small none = λ k m b. placed.states k (omega arith) literals ∙ none k m b
  next_same literals from last (Some gap) small (after, low, hold, none) = (
    after,
    low,
    placed.states gap (omega arith) literals ∙ hold,
    (λ k m b. placed.states k (omega arith) literals ∙ none k m b),
  )

-- ## What is read

-- the children of a decomposition line, by its place
pub children_read : (file : PlanFile) (forest : Forest) (actions : List ActionLine) (line : ℕ) → actions ≡ file.actions → length file.actions ≤ line
    → get_or forest.children (line - length actions) [] ≡ children_at (length file.actions) forest.children line
children_read file forest actions line same high =
    ap (λ ls. get_or forest.children (line - length ls) []) same
    ∙ sym (ap (λ b. cond b [] (get_or forest.children (line - length file.actions) [])) (le-ltb line (length file.actions) high))

-- a line's method at its place
method_there : (lines : List DecompositionLine) (j : ℕ) (line : DecompositionLine) → slice_get lines j ≡ Some line → line.method ≡ get_or (map (λ l. l.method) lines) j []
method_there [] j line at = absurd cc
method_there (l ∷ lines) zero line at = let same : l ≡ line = cc in sym (ap (λ x. x.method) same)
method_there (l ∷ lines) (suc j) line at = method_there lines j line at

-- the method of a decomposition line, by its place
pub method_read : (file : PlanFile) (actions : List ActionLine) (decompositions : List DecompositionLine) (i : ℕ) (line : DecompositionLine) → actions ≡ file.actions → decompositions ≡ file.decompositions
    → (i - length actions) < length decompositions → line ≡ get_or decompositions (i - length actions) line → line.method ≡ method_at file i
method_read file actions decompositions i line same alike low is =
    method_there decompositions (i - length actions) line (slice_get_read decompositions (length decompositions) (i - length actions) line refl low is)
    ∙ ap (λ ls. get_or (map (λ l. l.method) ls) (i - length actions) []) alike ∙ ap (λ ls. get_or (map (λ l. l.method) file.decompositions) (i - length ls) []) same

-- the task of a line that is read
pub task_read : (tasks : List GroundTask) (i : ℕ) (t : GroundTask) → i < length tasks → get_or tasks i t ≡ task_at tasks i
task_read tasks i t low = get_or_default tasks i t (record { name = 0; arguments = [] }) low
