-- Which instances the lines of a plan file show.
use Rattle.std.specs.Prelude.{◌≡◌, ℕ, List, Some, slice_get}
use Rattle.htn_model.specs.Grounding.{problem_of}
use Rattle.htn_model.specs.PlanFile.{Word, IsRearrangementOf}
use Rattle.htn_model.specs.Problem.{GroundTask, Network}
use Rattle.htn_model.specs.Task.{Task}
use Rattle.htn_model.specs.Verdict.{subtasks}
use Rattle.htn_ground.specs.Naming.{naming_of}

-- the network of an instance of the task's method with this name
abbrev pub IsNamedInstance : Task → GroundTask → Word → Network → Type 0
IsNamedInstance t g method network =
    (number : ℕ) × (slice_get ((problem_of t).methods_of g) number ≡ Some network) × (method ≡ (naming_of t).method_name g number)

-- the network is an initial one
abbrev pub IsInitial : Task → Network → Type 0
IsInitial t network = (number : ℕ) × (slice_get (problem_of t).initials number ≡ Some network)

-- the tasks are those of the network, in some order
abbrev pub HasSubtasks : List GroundTask → Network → Type 0
HasSubtasks tasks network = IsRearrangementOf tasks (subtasks network.children)

-- some instance of the task's method with this name has these subtasks
abbrev pub ShowsInstance : Task → GroundTask → Word → List GroundTask → Type 0
ShowsInstance t g method tasks = (network : Network) × IsNamedInstance t g method network × HasSubtasks tasks network

-- some initial network has these tasks
abbrev pub ShowsInitial : Task → List GroundTask → Type 0
ShowsInitial t tasks = (network : Network) × IsInitial t network × HasSubtasks tasks network
