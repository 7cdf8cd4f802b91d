-- A checked planning task: the declarations of a domain and a problem, by numbers.
use Rattle.std.specs.Prelude.{◌≡◌, ℕ, ◌+◌, ◌<◌, Bool, true, nat_lt, nat_eq, List, [], ◌++◌, length, map, get_or}
use Rattle.std.specs.List.{flat_map, list_any, All}
use Rattle.std.specs.List.Sorted.{IsStrictlySortedBy}
use Rattle.std.specs.Ordering.{nat_cmp}
use Rattle.htn_model.specs.Atom.{Atom}
use Rattle.htn_model.specs.State.{State, contains}
use Rattle.htn_model.specs.Problem.{IsClosed, IsSquare}
use Rattle.htn_model.specs.PlanFile.{IsWithoutRepeats}
use Rattle.htn_model.specs.Schema.{Name, Term, parameter, object, AtomSchema, EqualitySchema, TaskSchema, Formula, literal, equation, for_all, Formulas, no_formulas, formula, NetworkSchema}

-- a type, with the objects that have it, ascending
pub record ObjectType : Type 0 where
  pub name : Name
  pub objects : List ℕ

-- a predicate or a compound task, with the types of its places
pub record Declaration : Type 0 where
  pub name : Name
  pub types : List ℕ

-- a way to decompose a compound task
pub record MethodSchema : Type 0 where
  pub name : Name
  pub parameters : List ℕ
  pub task : TaskSchema
  pub precondition : List Formula
  pub constraints : List EqualitySchema
  pub network : NetworkSchema

-- an action: its parameters by type, its precondition, and what it deletes and adds
pub record ActionSchema : Type 0 where
  pub name : Name
  pub parameters : List ℕ
  pub precondition : List Formula
  pub deletes : List AtomSchema
  pub adds : List AtomSchema

-- the initial network: its parameters by type, constraints on them, and the tasks to be done
pub record InitialSchema : Type 0 where
  pub parameters : List ℕ
  pub constraints : List EqualitySchema
  pub network : NetworkSchema

-- Objects are numbered by first declaration. Compound tasks and actions have one numbering: the compound tasks
-- first. A schema's parameters are given by their types
pub record Task : Type 0 where
  pub objects : List Name
  pub types : List ObjectType
  pub predicates : List Declaration
  pub tasks : List Declaration
  pub methods : List MethodSchema
  pub actions : List ActionSchema
  pub initial_network : InitialSchema
  pub initial_atoms : State
  pub goal : List Formula

-- ## Look-ups

-- the objects that have a type, ascending
abbrev pub objects_of : Task → ℕ → List ℕ
objects_of t type = get_or (map (λ d. d.objects) t.types) type []

-- whether an object has a type
abbrev pub has_type : Task → ℕ → ℕ → Bool
has_type t type o = list_any (nat_eq o) (objects_of t type)

-- the types of a predicate's places
abbrev pub predicate_types : Task → ℕ → List ℕ
predicate_types t predicate = get_or (map (λ d. d.types) t.predicates) predicate []

-- whether a number is that of a compound task
abbrev pub is_compound : Task → ℕ → Bool
is_compound t name = nat_lt name (length t.tasks)

-- the types of the places of a compound task or an action
abbrev pub task_types : Task → ℕ → List ℕ
task_types t name = get_or (map (λ d. d.types) t.tasks ++ map (λ a. a.parameters) t.actions) name []

-- ## Types that are named

abbrev mutual
  -- the types of the variables of each `for_all`
  pub formula_types : Formula → List ℕ
  formula_types (literal positive a) = []
  formula_types (equation e) = []
  formula_types (for_all types body) = types ++ formulas_types body

  -- the types of the variables of formulas
  pub formulas_types : Formulas → List ℕ
  formulas_types no_formulas = []
  formulas_types (formula f fs) = formula_types f ++ formulas_types fs

-- the types of places, of parameters and of quantified variables
abbrev pub types_named_in : List Declaration → List Declaration → List MethodSchema → List ActionSchema → InitialSchema → List Formula → List ℕ
types_named_in predicates tasks methods actions initial goal =
    flat_map (λ d. d.types) predicates ++ flat_map (λ d. d.types) tasks
    ++ flat_map (λ m. m.parameters ++ flat_map formula_types m.precondition) methods
    ++ flat_map (λ a. a.parameters ++ flat_map formula_types a.precondition) actions
    ++ initial.parameters ++ flat_map formula_types goal

-- the types that a task names, by number
abbrev pub named_types : Task → List ℕ
named_types t = types_named_in t.predicates t.tasks t.methods t.actions t.initial_network t.goal

-- ## Names

-- the names of the types
abbrev pub type_names : Task → List Name
type_names t = map (λ d. d.name) t.types

-- the names of the predicates
abbrev pub predicate_names : Task → List Name
predicate_names t = map (λ d. d.name) t.predicates

-- the compound tasks, and then the actions
abbrev pub task_names : Task → List Name
task_names t = map (λ d. d.name) t.tasks ++ map (λ a. a.name) t.actions

-- the names of the methods
abbrev pub method_names : Task → List Name
method_names t = map (λ m. m.name) t.methods

-- no name occurs twice among those of a kind; compound tasks and actions are one kind
pub record HasDistinctNames (t : Task) : Type 0 where
  pub objects : IsWithoutRepeats t.objects
  pub types : IsWithoutRepeats (type_names t)
  pub predicates : IsWithoutRepeats (predicate_names t)
  pub tasks : IsWithoutRepeats (task_names t)
  pub methods : IsWithoutRepeats (method_names t)

-- ## Well typed

-- a parameter or variable among the first `count`, or an object of the task
abbrev pub IsTerm : Task → ℕ → Term → Type 0
IsTerm t count (parameter p) = p < count
IsTerm t count (object o) = o < length t.objects

-- the numbers are those of types
abbrev pub AreTypes : Task → List ℕ → Type 0
AreTypes t types = All (λ type. type < length t.types) types

-- a declared predicate with as many arguments as it has places
pub record IsAtomSchema (t : Task) (count : ℕ) (a : AtomSchema) : Type 0 where
  pub declared : a.predicate < length t.predicates
  pub arity : length a.arguments ≡ length (predicate_types t a.predicate)
  pub arguments : All (IsTerm t count) a.arguments

-- both sides of an equality are terms
abbrev pub IsEqualitySchema : Task → ℕ → EqualitySchema → Type 0
IsEqualitySchema t count e = IsTerm t count e.left × IsTerm t count e.right

-- a declared task or action with as many arguments as it has places
pub record IsTaskSchema (t : Task) (count : ℕ) (s : TaskSchema) : Type 0 where
  pub declared : s.name < length t.tasks + length t.actions
  pub arity : length s.arguments ≡ length (task_types t s.name)
  pub arguments : All (IsTerm t count) s.arguments

abbrev mutual
  -- the formula's numbers name something, and its arities agree
  pub IsFormula : Task → ℕ → Formula → Type 0
  IsFormula t count (literal positive a) = IsAtomSchema t count a
  IsFormula t count (equation e) = IsEqualitySchema t count e
  IsFormula t count (for_all types body) = AreTypes t types × AreFormulas t (count + length types) body

  -- each formula of a list is such a formula
  pub AreFormulas : Task → ℕ → Formulas → Type 0
  AreFormulas t count no_formulas = Unit {0}
  AreFormulas t count (formula f fs) = IsFormula t count f × AreFormulas t count fs

-- the order has a row and a column for each subtask, is transitive and has no cycle
pub record IsNetworkSchema (t : Task) (count : ℕ) (n : NetworkSchema) : Type 0 where
  pub subtasks : All (IsTaskSchema t count) n.subtasks
  pub square : IsSquare (length n.subtasks) n.order
  pub closed : IsClosed n.order

-- a method of a compound task whose parts are well typed
pub record IsMethodSchema (t : Task) (m : MethodSchema) : Type 0 where
  pub parameters : AreTypes t m.parameters
  pub task : IsTaskSchema t (length m.parameters) m.task
  pub compound : m.task.name < length t.tasks
  pub precondition : All (IsFormula t (length m.parameters)) m.precondition
  pub constraints : All (IsEqualitySchema t (length m.parameters)) m.constraints
  pub network : IsNetworkSchema t (length m.parameters) m.network

-- an action whose parts are well typed
pub record IsActionSchema (t : Task) (a : ActionSchema) : Type 0 where
  pub parameters : AreTypes t a.parameters
  pub precondition : All (IsFormula t (length a.parameters)) a.precondition
  pub deletes : All (IsAtomSchema t (length a.parameters)) a.deletes
  pub adds : All (IsAtomSchema t (length a.parameters)) a.adds

-- an initial network whose parts are well typed
pub record IsInitialSchema (t : Task) (n : InitialSchema) : Type 0 where
  pub parameters : AreTypes t n.parameters
  pub constraints : All (IsEqualitySchema t (length n.parameters)) n.constraints
  pub network : IsNetworkSchema t (length n.parameters) n.network

-- a declared predicate, at as many objects of the task as it has places
pub record IsGroundAtom (t : Task) (a : Atom) : Type 0 where
  pub declared : a.predicate < length t.predicates
  pub arity : length a.arguments ≡ length (predicate_types t a.predicate)
  pub arguments : All (λ o. o < length t.objects) a.arguments

-- the objects of a type ascend, so that lists of them are in the order of the objects
pub record IsObjectType (t : Task) (d : ObjectType) : Type 0 where
  pub ascending : IsStrictlySortedBy nat_cmp d.objects
  pub declared : All (λ o. o < length t.objects) d.objects

-- names differ, all numbers name something, each atom and task has its declaration's number of arguments, and orders
-- are closed
pub record IsWellTyped (t : Task) : Type 0 where
  pub names : HasDistinctNames t
  pub types : All (IsObjectType t) t.types
  pub predicates : All (λ d. AreTypes t d.types) t.predicates
  pub tasks : All (λ d. AreTypes t d.types) t.tasks
  pub methods : All (IsMethodSchema t) t.methods
  pub actions : All (IsActionSchema t) t.actions
  pub initial_network : IsInitialSchema t t.initial_network
  pub initial_atoms : (a : Atom) → contains t.initial_atoms a ≡ true → IsGroundAtom t a
  pub goal : All (IsFormula t 0) t.goal
