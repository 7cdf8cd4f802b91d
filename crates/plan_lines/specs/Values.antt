-- Which values the instances of a schema may have, and which tasks its subtasks are at them.
use Rattle.std.specs.Prelude.{◌≡◌, ℕ, List, Option, true}
use Rattle.htn_model.specs.Instances.{Conditions, ground_task, initial_conditions, is_instance}
use Rattle.htn_model.specs.Problem.{GroundTask}
use Rattle.htn_model.specs.Schema.{TaskSchema}
use Rattle.htn_model.specs.Task.{Task}
use Rattle.plan_lines.specs.Allowed.{IsInstanceWith}

-- what values have to meet, and those that are given
pub record AllowedValues : Type 0 where
  pub conditions : Conditions
  pub given : List (Option ℕ)

-- the values are allowed
abbrev pub Allows : Task → AllowedValues → List ℕ → Type 0
Allows t allowed values = IsInstanceWith t allowed.conditions allowed.given values

-- the values of an instance of the initial network
abbrev pub IsForRoots : Task → List ℕ → Type 0
IsForRoots t values = is_instance t (initial_conditions t t.initial_network) values ≡ true

-- there are such values
abbrev pub HasOne : (List ℕ → Type 0) → Type 0
HasOne IsOne = (values : List ℕ) × IsOne values

-- at some such values the subtask is this task
abbrev pub CanBe : (List ℕ → Type 0) → TaskSchema → GroundTask → Type 0
CanBe IsOne s g = (values : List ℕ) × IsOne values × (ground_task values s ≡ g)
