-- What entries say of a file: each is an instance of its line's method, with the gaps of its steps, all as details of
-- the file have them.
use Rattle.std.specs.Prelude.{◌≡◌, ℕ, ◌+◌, List, length, Some, slice_get}
use Rattle.htn_ground.specs.Naming.{method_name, naming_of, task_named}
use Rattle.htn_model.specs.Grounding.{problem_of}
use Rattle.htn_model.specs.Instance.{Instance}
use Rattle.htn_model.specs.Instances.{initials, methods_of}
use Rattle.htn_model.specs.Literal.{Literal}
use Rattle.htn_model.specs.PlanFile.{DecompositionLine, Naming, PlanFile, Word}
use Rattle.htn_model.specs.Problem.{GroundTask, Problem, precondition}
use Rattle.htn_model.specs.Shown.{LinesRun}
use Rattle.htn_model.specs.State.{State}
use Rattle.htn_model.specs.Task.{Task}
use Rattle.line_details.specs.Details.{AreDetails, Details}
use Rattle.plan_text.specs.Forest.{Forest, IsForestOf}
use Rattle.plan_text.specs.Plans.{AreTasks, tree_at}
use Rattle.plan_text.specs.Reached.{children_at}
use Rattle.plan_room.specs.Lines.{Lines, task_of}
use Rattle.line_details.specs.Entries.{spans_of}
use Rattle.line_details.specs.declared.entry.Entry.{Entry}

-- the instance with this number of a task's methods, and of the method with this name
abbrev pub IsNumbered : Task → GroundTask → Word → ℕ → Instance → Type 0
IsNumbered t g method number instance = (slice_get (methods_of t g) number ≡ Some instance) × (method ≡ method_name t g number)

-- each entry has an instance of its line's method
abbrev pub HaveInstances : Task → Lines → List DecompositionLine → List Entry → Type 0
HaveInstances t l lines entries = (j : ℕ) (line : DecompositionLine) (e : Entry) → slice_get lines j ≡ Some line → slice_get entries j ≡ Some e
    → (n : ℕ) × IsNumbered t (task_of (l.plan_of (l.actions + j))) line.method n e.instance

-- the entry is the instance that the details number, and its steps stand in the gaps of the details
pub record IsFoundFor (t : Task) (details : Details) (line : DecompositionLine) (e : Entry) : Type 0 where
  pub g : GroundTask
  pub named : task_named t line.task line.arguments ≡ Some g
  pub instance : IsNumbered t g line.method (details.number line.id) e.instance
  pub gaps : (a : ℕ) (literals : List Literal) → slice_get e.instance.network.children a ≡ Some (precondition literals)
      → details.gap line.id a ≡ (spans_of e).start a

-- the entries are those of details of the file, the root's and in turn those of the decomposition lines
pub record AreFound (t : Task) (file : PlanFile) (root : Entry) (entries : List Entry) : Type 0 where
  pub details : Details
  pub are : AreDetails (naming_of t) (problem_of t) file details
  pub initial : slice_get (initials t) details.initial ≡ Some root.instance
  pub many : length entries ≡ length file.decompositions
  pub each : (j : ℕ) (line : DecompositionLine) (e : Entry) → slice_get file.decompositions j ≡ Some line → slice_get entries j ≡ Some e
      → IsFoundFor t details line e

-- ## The lines of a file

-- the lines of a forest, with their tasks and the states between the action lines
abbrev pub forest_lines : Naming → Problem → PlanFile → Forest → (ℕ → GroundTask) → (ℕ → State) → Lines
forest_lines naming problem file forest task_at states = record {
  naming = naming;
  problem = problem;
  states = states;
  actions = length file.actions;
  count = length file.actions + length file.decompositions;
  plan_of = tree_at task_at file forest;
  children = children_at (length file.actions) forest.children;
  roots = forest.roots;
}

-- these are the lines of a file that is a forest and runs to the goal
pub record AreLinesOf (t : Task) (file : PlanFile) (l : Lines) : Type 0 where
  pub forest : Forest
  pub task_at : ℕ → GroundTask
  pub is_forest : IsForestOf file forest
  pub named : AreTasks (naming_of t) file task_at
  pub runs : LinesRun (naming_of t) (problem_of t) file l.states
  pub are : l ≡ forest_lines (naming_of t) (problem_of t) file forest task_at l.states
