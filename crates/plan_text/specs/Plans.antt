-- The plan trees of a forest's lines, by the lines' numbers.
use Rattle.std.specs.Prelude.{◌≡◌, ℕ, zero, suc, ◌+◌, ◌-◌, ◌≤◌, ◌<◌, List, [], ◌∷◌, length, map, get_or, cond, ltb, Some, slice_get}
use Rattle.htn_model.specs.Problem.{GroundTask}
use Rattle.htn_model.specs.PlanFile.{Word, ActionLine, DecompositionLine, PlanFile, Naming}
use Rattle.htn_model.specs.Fits.{PlanTree, action_at, decomposition, PlanTrees, no_plans, plan}
use Rattle.htn_model.specs.Shown.{ShowTrees}
use Rattle.plan_text.specs.Forest.{Forest, IsForestOf}
use Rattle.plan_text.specs.Reached.{children_at}

-- the trees of lines, in turn
abbrev pub trees_of : (ℕ → PlanTree) → List ℕ → PlanTrees
trees_of tree [] = no_plans
trees_of tree (line ∷ lines) = plan (tree line) (trees_of tree lines)

-- the method of a decomposition line
abbrev pub method_at : PlanFile → ℕ → Word
method_at file line = get_or (map (λ l. l.method) file.decompositions) (line - length file.actions) []

-- the tree of a line, in which the lines `depth` levels below it are leaves
abbrev pub tree_within : ℕ → (ℕ → GroundTask) → PlanFile → Forest → ℕ → PlanTree
tree_within zero task_at file forest line = action_at (task_at line) line
tree_within (suc depth) task_at file forest line =
    cond (ltb line (length file.actions)) (action_at (task_at line) line)
    (decomposition (task_at line) (method_at file line) (trees_of (tree_within depth task_at file forest) (children_at (length file.actions) forest.children line)))

-- the plan tree of a line
abbrev pub tree_at : (ℕ → GroundTask) → PlanFile → Forest → ℕ → PlanTree
tree_at task_at file forest line = tree_within (length file.decompositions) task_at file forest line

-- each line's words name its task
pub record AreTasks (naming : Naming) (file : PlanFile) (task_at : ℕ → GroundTask) : Type 0 where
  pub actions : (i : ℕ) (line : ActionLine) → slice_get file.actions i ≡ Some line → naming.named line.name line.arguments ≡ Some (task_at i)
  pub decompositions : (j : ℕ) (line : DecompositionLine) → slice_get file.decompositions j ≡ Some line
      → naming.named line.task line.arguments ≡ Some (task_at (length file.actions + j))

-- an action line is itself, any other has the trees of its children below it, and so the roots' lines show their trees
pub record AreTrees (naming : Naming) (file : PlanFile) (forest : Forest) (task_at : ℕ → GroundTask) : Type 0 where
  pub action : (i : ℕ) → i < length file.actions → tree_at task_at file forest i ≡ action_at (task_at i) i
  pub decomposition : (i : ℕ) → length file.actions ≤ i → i < length file.actions + length file.decompositions
      → tree_at task_at file forest i ≡ decomposition (task_at i) (method_at file i) (trees_of (tree_at task_at file forest) (children_at (length file.actions) forest.children i))
  pub roots : ShowTrees naming file file.roots (trees_of (tree_at task_at file forest) forest.roots)

-- the lines of a forest, each with its task, have plan trees
abbrev pub ForestsAreTrees : Naming → Type 0
ForestsAreTrees naming = (file : PlanFile) (forest : Forest) (task_at : ℕ → GroundTask) → IsForestOf file forest → AreTasks naming file task_at → AreTrees naming file forest task_at
