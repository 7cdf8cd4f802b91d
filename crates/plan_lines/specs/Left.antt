-- How many of each task are left to be subtasks.
use Rattle.std.specs.Prelude.{◌≡◌, ◌+◌, ℕ, Bool, true, false, Option, List, [], ◌∷◌, map, get_or}
use Rattle.std.specs.List.{position_or_len}
use Rattle.htn_model.specs.Problem.{GroundTask, ground_task_eq}
use Rattle.htn_model.specs.Schema.{TaskSchema}
use Rattle.htn_model.specs.Task.{Task, MethodSchema}
use Rattle.htn_model.specs.Instances.{Conditions, ground_task, is_instance, method_conditions}
use Rattle.plan_lines.specs.Given.{Extends}

-- 1 for true and 0 for false
abbrev pub once : Bool → ℕ
once true = 1
once false = 0

-- the number of times that a task occurs in a list
abbrev pub times : GroundTask → List GroundTask → ℕ
times g [] = 0
times g (x ∷ xs) = once (ground_task_eq g x) + times g xs

-- how many of a task are left, where there is a number for each of some tasks
abbrev pub left_of : List GroundTask → List ℕ → GroundTask → ℕ
left_of tasks left g = get_or left (position_or_len (ground_task_eq g) tasks) 0

-- at these values the schemas' tasks are what is left, each as many times
abbrev pub Fill : List GroundTask → List ℕ → List TaskSchema → List ℕ → Type 0
Fill tasks left schemas values = (g : GroundTask) → times g (map (ground_task values) schemas) ≡ left_of tasks left g

-- some instance with the values that are given has what is left as the tasks of these schemas
abbrev pub ShowsWith : Task → Conditions → List GroundTask → List ℕ → List TaskSchema → List (Option ℕ) → Type 0
ShowsWith t c tasks left schemas given = (values : List ℕ) × Extends values given × (is_instance t c values ≡ true) × Fill tasks left schemas values

-- some instance of the method for the task has what is left as its subtasks
abbrev pub MethodShows : Task → GroundTask → MethodSchema → List GroundTask → List ℕ → Type 0
MethodShows t g m tasks left =
    (values : List ℕ) × (ground_task values m.task ≡ g) × (is_instance t (method_conditions t m) values ≡ true) × Fill tasks left m.network.subtasks values
