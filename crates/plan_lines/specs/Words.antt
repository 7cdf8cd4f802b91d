-- Why words name no task at objects that it takes, or no instance of an action.
use Rattle.std.specs.Prelude.{◌≡◌, ℕ, Bool, true, false, not, List, length, Some, None}
use Rattle.std.specs.List.{list_all, zip}
use Rattle.htn_ground.specs.Naming.{task_named}
use Rattle.htn_model.specs.Instances.{action_at, action_conditions, equality_holds, value_of}
use Rattle.htn_model.specs.PlanFile.{Word}
use Rattle.htn_model.specs.Problem.{GroundTask}
use Rattle.htn_model.specs.Schema.{Formula, literal, equation, for_all}
use Rattle.htn_model.specs.Task.{ActionSchema, Task, has_type, is_compound, task_names, task_types}
use Rattle.htn_task.specs.Numbers.{number_of}
use Rattle.plan_lines.specs.First.{HasNone, IsFirst}
use Rattle.plan_lines.specs.declared.cause.WordsCause.{WordsCause}
use Rattle.plan_lines.specs.declared.cause.WordsCause.TheVariants.{NoTask, OtherKind, Arguments, NoObject, ObjectType, Equality, AtomType}

-- the name is that of a compound task, or else of an action, and this is its number
abbrev pub IsOfKind : Task → (compound : Bool) → Word → ℕ → Type 0
IsOfKind t compound name number = (number_of (task_names t) name ≡ Some number) × (is_compound t number ≡ compound)

-- the word names no object
abbrev pub NamesNoObject : Task → Word → Type 0
NamesNoObject t word = number_of t.objects word ≡ None

-- an object hasn't the type beside it
abbrev pub IsOtherType : Task → ℕ × ℕ → Type 0
IsOtherType t p = has_type t p.0 p.1 ≡ false

-- whether a formula is an equality that fails at these values
abbrev pub is_failing : List ℕ → Formula → Bool
is_failing values (literal positive a) = false
is_failing values (equation e) = not (equality_holds values e)
is_failing values (for_all types body) = false

-- a formula is an equality that fails at these values
abbrev pub Fails : List ℕ → Formula → Type 0
Fails values f = is_failing values f ≡ true

-- the words are the name of a task of the kind, and as many words as it takes arguments
pub record HasCount (t : Task) (compound : Bool) (name : Word) (arguments : List Word) : Type 0 where
  pub number : ℕ
  pub kind : IsOfKind t compound name number
  pub count : length arguments ≡ length (task_types t number)

-- the words have such a form, and each argument names an object
abbrev pub HasForm : Task → (compound : Bool) → Word → List Word → Type 0
HasForm t compound name arguments = HasCount t compound name arguments × HasNone (NamesNoObject t) arguments

-- the words name this task of the kind, at as many objects as it takes
pub record IsCounted (t : Task) (compound : Bool) (name : Word) (arguments : List Word) (g : GroundTask) : Type 0 where
  pub named : task_named t name arguments ≡ Some g
  pub kind : is_compound t g.name ≡ compound
  pub count : length g.arguments ≡ length (task_types t g.name)

-- the words name this task, and each object has the type of its place
abbrev pub IsTyped : Task → (compound : Bool) → Word → List Word → GroundTask → Type 0
IsTyped t compound name arguments g = IsCounted t compound name arguments g × HasNone (IsOtherType t) (zip (task_types t g.name) g.arguments)

-- the words name an action at objects of its types
abbrev pub IsTypedAction : Task → Word → List Word → GroundTask → ActionSchema → Type 0
IsTypedAction t name arguments g a = IsTyped t false name arguments g × (action_at t g.name ≡ Some a)

-- why words name no compound task, or else no action, at objects of its types: the first of these that is so
abbrev pub IsWordsCause : Task → (compound : Bool) → Word → List Word → WordsCause → Type 0
IsWordsCause t compound name arguments NoTask = number_of (task_names t) name ≡ None
IsWordsCause t compound name arguments OtherKind = (number : ℕ) × IsOfKind t (not compound) name number
IsWordsCause t compound name arguments (Arguments wanted) =
    (number : ℕ) × IsOfKind t compound name number × (wanted ≡ length (task_types t number)) × (length arguments ≡ wanted → ⊥)
IsWordsCause t compound name arguments (NoObject place) = HasCount t compound name arguments × IsFirst (NamesNoObject t) arguments place
IsWordsCause t compound name arguments (ObjectType place) =
    (g : GroundTask) × IsCounted t compound name arguments g × IsFirst (IsOtherType t) (zip (task_types t g.name) g.arguments) place
IsWordsCause t compound name arguments (Equality number) = ⊥
IsWordsCause t compound name arguments AtomType = ⊥

-- why words name no instance of an action: the same, or else the first of these
abbrev pub IsActionCause : Task → Word → List Word → WordsCause → Type 0
IsActionCause t name arguments (Equality number) =
    (g : GroundTask) × (a : ActionSchema) × IsTypedAction t name arguments g a × IsFirst (Fails g.arguments) a.precondition number
IsActionCause t name arguments AtomType =
    (g : GroundTask) × (a : ActionSchema) × IsTypedAction t name arguments g a × HasNone (Fails g.arguments) a.precondition
    × (list_all (λ p. has_type t p.1 (value_of g.arguments p.0)) (action_conditions t a).places ≡ false)
IsActionCause t name arguments cause = IsWordsCause t false name arguments cause
