-- When a line has an instance, by the tasks of lines.
use Rattle.std.specs.Prelude.{◌≡◌, ◌↔◌, ℕ, ◌+◌, List, [], length, get_or, Option, Some, slice_get}
use Rattle.htn_model.specs.Literal.{Action}
use Rattle.htn_model.specs.Problem.{GroundTask, Problem, Network}
use Rattle.htn_model.specs.PlanFile.{Word, ActionLine, DecompositionLine, PlanFile, Naming, IsRearrangementOf}
use Rattle.htn_model.specs.Verdict.{action_line, decomposition_line, root_line, subtasks, HasInstance}
use Rattle.plan_text.specs.Forest.{Forest, IsForestOf}
use Rattle.htn_verify.specs.Tasks.{AreNamedAs, HaveTasks}

-- an instance of the method with this name
abbrev pub IsInstanceOf : Naming → Problem → GroundTask → Word → Network → Type 0
IsInstanceOf naming problem t method network =
    (number : ℕ) × (slice_get (problem.methods_of t) number ≡ Some network) × (method ≡ naming.method_name t number)

-- the network is an initial one
abbrev pub IsInitial : Problem → Network → Type 0
IsInitial problem network = (number : ℕ) × (slice_get problem.initials number ≡ Some network)

-- some such network has these subtasks, in some order
abbrev pub ShowsOne : (Network → Type 0) → List GroundTask → Type 0
ShowsOne IsOne tasks = (network : Network) × IsOne network × IsRearrangementOf tasks (subtasks network.children)

-- a line has an instance where its words and those of its children name tasks that show one
pub record InstancesByTasks (naming : Naming) (problem : Problem) : Type 0 where
  pub action : (file : PlanFile) (named_at : ℕ → Option GroundTask) → AreNamedAs naming file named_at → (i : ℕ) (line : ActionLine) → slice_get file.actions i ≡ Some line
      → HasInstance naming problem file (action_line line) ↔ ((g : GroundTask) × (named_at i ≡ Some g) × (a : Action) × (problem.action_of g ≡ Some a))
  pub decomposition : (file : PlanFile) (forest : Forest) (named_at : ℕ → Option GroundTask) → IsForestOf file forest → AreNamedAs naming file named_at
      → (j : ℕ) (line : DecompositionLine) → slice_get file.decompositions j ≡ Some line
      → HasInstance naming problem file (decomposition_line line)
      ↔ ((t : GroundTask) × (named_at (length file.actions + j) ≡ Some t) × (tasks : List GroundTask) × HaveTasks named_at (get_or forest.children j []) tasks
      × ShowsOne (IsInstanceOf naming problem t line.method) tasks)
  pub roots : (file : PlanFile) (forest : Forest) (named_at : ℕ → Option GroundTask) → IsForestOf file forest → AreNamedAs naming file named_at
      → HasInstance naming problem file (root_line file.roots) ↔ ((tasks : List GroundTask) × HaveTasks named_at forest.roots tasks × ShowsOne (IsInitial problem) tasks)
