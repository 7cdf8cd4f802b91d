-- The names of a task: the objects, tasks and methods that the words of a plan file name, and the words for them.
use Rattle.std.specs.Prelude.{ℕ, List, [], ◌∷◌, map, get_or, codes, Option, Some, None, option_and_then}
use Rattle.htn_ground.specs.Methods.{method_of}
use Rattle.htn_model.specs.PlanFile.{Word, Naming}
use Rattle.htn_model.specs.Problem.{GroundTask}
use Rattle.htn_model.specs.Task.{Task, method_names, task_names}
use Rattle.htn_task.specs.Numbers.{number_of}

-- the word for a number that names nothing
abbrev pub unnamed : Word
unnamed = codes "?"

-- the name of an object
abbrev pub object_name : Task → ℕ → Word
object_name t o = get_or t.objects o unnamed

-- the name of a compound task or an action
abbrev pub task_name : Task → ℕ → Word
task_name t n = get_or (task_names t) n unnamed

-- the name of a method, if there is one
abbrev pub numbered_method_name : Task → Option ℕ → Word
numbered_method_name t None = unnamed
numbered_method_name t (Some m) = get_or (method_names t) m unnamed

-- the method of the instance with this number
abbrev pub method_name : Task → GroundTask → ℕ → Word
method_name t g number = numbered_method_name t (method_of t g number)

-- the objects that the words name, where each names one
abbrev pub objects_named : Task → List Word → Option (List ℕ)
objects_named t [] = Some []
objects_named t (w ∷ words) = option_and_then (λ o. option_and_then (λ os. Some (o ∷ os)) (objects_named t words)) (number_of t.objects w)

-- the ground task that words name: its name, and objects for its arguments
abbrev pub task_named : Task → Word → List Word → Option GroundTask
task_named t w words =
    option_and_then (λ n. option_and_then (λ os. Some (record { name = n; arguments = os })) (objects_named t words)) (number_of (task_names t) w)

-- the words of a task, both ways
abbrev pub naming_of : Task → Naming
naming_of t = record {
  named = task_named t;
  task_name = λ g. task_name t g.name;
  argument_names = λ g. map (object_name t) g.arguments;
  method_name = method_name t;
}
