-- The instances of one method for one ground task.
use Rattle.std.specs.Prelude.{Bool, List, ℕ, ◌&&◌, length, map, nat_eq, not, Option, option_and_then, slice_get}
use Rattle.std.specs.List.{filter}
use Rattle.htn_model.specs.Exhaustion.{is_dead}
use Rattle.htn_model.specs.Grounding.{problem_of}
use Rattle.htn_model.specs.Instance.{Instance}
use Rattle.htn_model.specs.Instances.{ground_task, instances, method_conditions, method_instance, methods_of}
use Rattle.htn_model.specs.Problem.{GroundTask, ground_task_eq}
use Rattle.htn_model.specs.Schema.{TaskSchema}
use Rattle.htn_model.specs.Task.{MethodSchema, Task}

-- the values of the instances of a method whose task is the given one
abbrev pub instances_for : Task → GroundTask → MethodSchema → List (List ℕ)
instances_for t g m = filter (λ values. ground_task_eq (ground_task values m.task) g) (instances t (method_conditions t m))

-- the instances at numbered values
abbrev pub numbered_instances : Task → ℕ → MethodSchema → List (ℕ × List ℕ) → List (ℕ × Instance)
numbered_instances t number m values = map (λ p. (p.0, method_instance t number m p.1)) values

-- those that are not dead
abbrev pub live_instances : Task → List (ℕ × Instance) → List (ℕ × Instance)
live_instances t found = filter (λ p. not (is_dead (problem_of t) p.1.network)) found

-- whether a schema's task has the number of a ground task, and as many arguments
abbrev pub fits_task : TaskSchema → GroundTask → Bool
fits_task s g = nat_eq s.name g.name && nat_eq (length s.arguments) (length g.arguments)

-- the method of the instance with this number, among those of a ground task's methods
abbrev pub method_of : Task → GroundTask → ℕ → Option ℕ
method_of t g number = option_and_then (λ i. i.method) (slice_get (methods_of t g) number)
