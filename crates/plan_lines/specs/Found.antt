-- The values of instances that a search finds: of those that are alike one is enough.
use Rattle.std.specs.Prelude.{◌≡◌, ◌<◌, ◌⊎◌, ℕ, Bool, true, List, [], Option, Some, None, get_or, length}
use Rattle.htn_model.specs.Instances.{Conditions, ground_atom, ground_task, is_instance, method_conditions, network_of}
use Rattle.htn_model.specs.PlanFile.{IsIn}
use Rattle.htn_model.specs.Problem.{GroundTask}
use Rattle.htn_model.specs.Schema.{AtomSchema, Formula, NetworkSchema}
use Rattle.htn_model.specs.Task.{MethodSchema, Task}
use Rattle.plan_lines.specs.Turns.{History, IsEverTrue}
use Rattle.plan_lines.specs.Allowed.{IsInstanceWith}
use Rattle.plan_lines.specs.Fitting.{StepsMayHold}
use Rattle.plan_lines.specs.Left.{Fill}

-- the values are the same at each parameter that is shown
pub record AreAlike (shown : List Bool) (values others : List ℕ) : Type 0 where
  pub long : length values ≡ length others
  pub same : (p : ℕ) → get_or shown p true ≡ true → get_or values p 0 ≡ get_or others p 0

-- each atom is ever true at the values
abbrev pub AreEverTrue : History → List AtomSchema → List ℕ → Type 0
AreEverTrue h atoms values = (a : AtomSchema) → IsIn a atoms → IsEverTrue h (ground_atom values a)

-- the values of an instance, with those that are given, at which each atom is ever true
abbrev pub MayFit : Task → Conditions → History → List AtomSchema → List (Option ℕ) → List ℕ → Type 0
MayFit t c h atoms given values = IsInstanceWith t c given values × AreEverTrue h atoms values

-- each shown one of the first `count` parameters has a value
abbrev pub AreShownFilled : List Bool → List (Option ℕ) → ℕ → Type 0
AreShownFilled shown given count = (p : ℕ) → p < count → get_or shown p true ≡ true → get_or given p (Some 0) ≡ None → ⊥

-- the new list has the old values, otherwise only allowed ones, and for each wanted one a value like it
pub record AreFound (Alike : List ℕ → List ℕ → Type 0) (IsAllowed IsWanted : List ℕ → Type 0) (old new : List (List ℕ)) : Type 0 where
  pub kept : (values : List ℕ) → IsIn values old → IsIn values new
  pub each : (values : List ℕ) → IsIn values new → IsIn values old ⊎ IsAllowed values
  pub all : (values : List ℕ) → IsWanted values → (found : List ℕ) × IsIn found new × Alike values found

-- ## Values of one schema's instances

-- the values of an instance of the method for the task
abbrev pub IsFor : Task → GroundTask → MethodSchema → List ℕ → Type 0
IsFor t g m values = (ground_task values m.task ≡ g) × (is_instance t (method_conditions t m) values ≡ true)

-- of the values that are allowed, and with which the subtasks are what is left and the step may hold, some with each
-- network
abbrev pub AreValuesToFit : Task → History → List GroundTask → List ℕ → List Formula → NetworkSchema → (List ℕ → Type 0) → List (List ℕ) → Type 0
AreValuesToFit t h tasks left precondition n IsAllowed found =
    AreFound (λ values others. network_of t values precondition n ≡ network_of t others precondition n) IsAllowed
    (λ values. IsAllowed values × Fill tasks left n.subtasks values × StepsMayHold h (network_of t values precondition n).children) [] found
