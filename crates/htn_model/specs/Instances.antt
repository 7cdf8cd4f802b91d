-- The instances of a task's schemas: which objects its parameters may stand for, and what a schema is then.
use Rattle.std.specs.Prelude.{ℕ, ◌+◌, ◌-◌, Bool, true, false, not, ◌&&◌, cond, nat_eq, nat_lt, List, [], ◌∷◌, ◌++◌, length, map, Option, Some, None, option_and_then, slice_get, slice_index}
use Rattle.std.specs.Bool.{beq}
use Rattle.std.specs.List.{filter, list_all, list_any, flat_map, enumerate_from, zip}
use Rattle.htn_model.specs.Atom.{Atom}
use Rattle.htn_model.specs.State.{set_of}
use Rattle.htn_model.specs.Literal.{Literal, atom, equality, Action}
use Rattle.htn_model.specs.Problem as problem
use Rattle.htn_model.specs.Problem.{GroundTask, Child, Order, Network, ground_task_eq}
use Rattle.htn_model.specs.Instance.{Instance}
use Rattle.htn_model.specs.Schema.{Term, parameter, object, AtomSchema, EqualitySchema, TaskSchema, Formula, literal, equation, for_all, Formulas, no_formulas, formula, NetworkSchema}
use Rattle.htn_model.specs.Task.{Task, MethodSchema, ActionSchema, InitialSchema, objects_of, has_type, predicate_types, task_types, is_compound}

-- ## Substitution

-- the object that a term stands for, where the parameters and variables have these values
abbrev pub value_of : List ℕ → Term → ℕ
value_of values (parameter p) = slice_index values p
value_of values (object o) = o

-- an atom with values for its parameters
abbrev pub ground_atom : List ℕ → AtomSchema → Atom
ground_atom values a = record { predicate = a.predicate; arguments = map (value_of values) a.arguments }

-- a task with values for its parameters
abbrev pub ground_task : List ℕ → TaskSchema → GroundTask
ground_task values s = record { name = s.name; arguments = map (value_of values) s.arguments }

-- an equality with values for its parameters
abbrev pub ground_equality : List ℕ → EqualitySchema → Literal
ground_equality values e = equality e.is_positive (value_of values e.left) (value_of values e.right)

-- all choices of one object of each list, in lexicographic order
abbrev pub assignments : List (List ℕ) → List (List ℕ)
assignments [] = [] ∷ []
assignments (objects ∷ domains) = flat_map (λ o. map (λ values. o ∷ values) (assignments domains)) objects

-- for each type the objects that have it
abbrev pub domains_of : Task → List ℕ → List (List ℕ)
domains_of t types = map (objects_of t) types

-- ## Ground literals

abbrev mutual
  -- the literals of a formula: a `for_all` is all that its body gives, in the order of its substitutions
  pub literals_in : Task → List ℕ → Formula → List Literal
  literals_in t values (literal positive a) = atom positive (ground_atom values a) ∷ []
  literals_in t values (equation e) = ground_equality values e ∷ []
  literals_in t values (for_all types body) = flat_map (λ more. literals_in_all t (values ++ more) body) (assignments (domains_of t types))

  -- the literals of formulas under values
  pub literals_in_all : Task → List ℕ → Formulas → List Literal
  literals_in_all t values no_formulas = []
  literals_in_all t values (formula f fs) = literals_in t values f ++ literals_in_all t values fs

-- the literals of a conjunction
abbrev pub literals_of : Task → List ℕ → List Formula → List Literal
literals_of t values formulas = flat_map (literals_in t values) formulas

-- whether a formula is an equality outside every `for_all`
abbrev pub is_equation : Formula → Bool
is_equation (literal positive a) = false
is_equation (equation e) = true
is_equation (for_all types body) = false

-- the formulas that are left to hold in a state
abbrev pub state_formulas : List Formula → List Formula
state_formulas formulas = filter (λ f. not (is_equation f)) formulas

-- ## Conditions

-- the equality that a formula is, if it is one
abbrev pub equalities_in : Formula → List EqualitySchema
equalities_in (literal positive a) = []
equalities_in (equation e) = e ∷ []
equalities_in (for_all types body) = []

-- the equalities of a conjunction outside every `for_all`
abbrev pub equalities_of : List Formula → List EqualitySchema
equalities_of formulas = flat_map equalities_in formulas

-- each argument with the type of its place
abbrev pub atom_places : Task → AtomSchema → List (Term × ℕ)
atom_places t a = zip a.arguments (predicate_types t a.predicate)

-- the arguments of a task with the types of their places
abbrev pub task_places : Task → TaskSchema → List (Term × ℕ)
task_places t s = zip s.arguments (task_types t s.name)

abbrev mutual
  -- the typed places of a formula's atoms
  pub formula_places : Task → Formula → List (Term × ℕ)
  formula_places t (literal positive a) = atom_places t a
  formula_places t (equation e) = []
  formula_places t (for_all types body) = formulas_places t body

  -- the typed places of the atoms of formulas
  pub formulas_places : Task → Formulas → List (Term × ℕ)
  formulas_places t no_formulas = []
  formulas_places t (formula f fs) = formula_places t f ++ formulas_places t fs

-- whether a term is one of the first `count` parameters, or an object
abbrev pub is_among : ℕ → Term → Bool
is_among count (parameter p) = nat_lt p count
is_among count (object o) = true

-- what a schema asks of the values of its parameters: their types, equalities, and arguments' types
pub record Conditions : Type 0 where
  pub parameters : List ℕ
  pub equalities : List EqualitySchema
  pub places : List (Term × ℕ)

-- the conditions of a schema. The quantified variables have the types of their places by declaration
abbrev pub conditions : List ℕ → List EqualitySchema → List (Term × ℕ) → Conditions
conditions parameters equalities places =
    record { parameters = parameters; equalities = equalities; places = filter (λ p. is_among (length parameters) p.0) places }

-- what the values of a method's parameters have to meet: types, equalities, and the places at which they stand
abbrev pub method_conditions : Task → MethodSchema → Conditions
method_conditions t m =
    conditions m.parameters (equalities_of m.precondition ++ m.constraints)
    (task_places t m.task ++ flat_map (task_places t) m.network.subtasks ++ flat_map (formula_places t) m.precondition)

-- what the values of an action's parameters have to meet
abbrev pub action_conditions : Task → ActionSchema → Conditions
action_conditions t a =
    conditions a.parameters (equalities_of a.precondition)
    (flat_map (formula_places t) a.precondition ++ flat_map (atom_places t) a.deletes ++ flat_map (atom_places t) a.adds)

-- what the values of the initial network's parameters have to meet
abbrev pub initial_conditions : Task → InitialSchema → Conditions
initial_conditions t n = conditions n.parameters n.constraints (flat_map (task_places t) n.network.subtasks)

-- whether an equality holds of these values
abbrev pub equality_holds : List ℕ → EqualitySchema → Bool
equality_holds values e = beq e.is_positive (nat_eq (value_of values e.left) (value_of values e.right))

-- whether all equalities hold and all arguments have the types of their places
abbrev pub meets : Task → Conditions → List ℕ → Bool
meets t c values = list_all (equality_holds values) c.equalities && list_all (λ p. has_type t p.1 (value_of values p.0)) c.places

-- the values of a schema's instances, in lexicographic order
abbrev pub instances : Task → Conditions → List (List ℕ)
instances t c = filter (meets t c) (assignments (domains_of t c.parameters))

-- whether each object has the type of its place
abbrev pub have_types : Task → List ℕ → List ℕ → Bool
have_types t [] [] = true
have_types t [] (o ∷ objects) = false
have_types t (type ∷ types) [] = false
have_types t (type ∷ types) (o ∷ objects) = has_type t type o && have_types t types objects

-- whether these are the values of an instance
abbrev pub is_instance : Task → Conditions → List ℕ → Bool
is_instance t c values = have_types t c.parameters values && meets t c values

-- ## Networks

-- a subtask as a child of a network
abbrev pub child_of : Task → GroundTask → Child
child_of t g = cond (is_compound t g.name) (problem.task g) (problem.action g)

-- whether a precondition takes a step: it has more than equalities
abbrev pub has_step : List Formula → Bool
has_step precondition = list_any (λ f. not (is_equation f)) precondition

-- the precondition step, where there is one
abbrev pub steps_of : Task → List ℕ → List Formula → List Child
steps_of t values precondition = cond (has_step precondition) (problem.precondition (literals_of t values (state_formulas precondition)) ∷ []) []

-- the order with a first position before all others
abbrev pub step_first : Order → Order
step_first order = (false ∷ map (λ row. true) order) ∷ map (λ row. false ∷ row) order

-- the order of a network, with the step of the precondition in front of all if there is one
abbrev pub order_with_step : List Formula → Order → Order
order_with_step precondition order = cond (has_step precondition) (step_first order) order

-- the children with the precondition step first, and their order
abbrev pub network_of : Task → List ℕ → List Formula → NetworkSchema → Network
network_of t values precondition n =
    record { children = steps_of t values precondition ++ map (λ s. child_of t (ground_task values s)) n.subtasks; order = order_with_step precondition n.order }

-- ## Instances

-- the instance of a method by these values
abbrev pub method_instance : Task → ℕ → MethodSchema → List ℕ → Instance
method_instance t number m values =
    record { method = Some number; values = values; network = network_of t values m.precondition m.network }

-- the instances of one method whose task is the given one
abbrev pub instances_of_method : Task → GroundTask → ℕ → MethodSchema → List Instance
instances_of_method t g number m =
    map (method_instance t number m) (filter (λ values. ground_task_eq (ground_task values m.task) g) (instances t (method_conditions t m)))

-- the method instances of a ground task: by the methods' declaration, and then by their values
abbrev pub methods_of : Task → GroundTask → List Instance
methods_of t g = flat_map (λ p. instances_of_method t g p.0 p.1) (enumerate_from 0 t.methods)

-- the instance of the initial network by these values
abbrev pub initial_instance : Task → List ℕ → Instance
initial_instance t values = record { method = None; values = values; network = network_of t values [] t.initial_network.network }

-- the instances of the initial network, by their values
abbrev pub initials : Task → List Instance
initials t = map (initial_instance t) (instances t (initial_conditions t t.initial_network))

-- an action with values for its parameters
abbrev pub ground_action : Task → List ℕ → ActionSchema → Action
ground_action t values a = record {
  precondition = literals_of t values (state_formulas a.precondition);
  deletes = set_of (map (ground_atom values) a.deletes);
  adds = set_of (map (ground_atom values) a.adds);
}

-- the action of that number
abbrev pub action_at : Task → ℕ → Option ActionSchema
action_at t name = cond (is_compound t name) None (slice_get t.actions (name - length t.tasks))

-- the ground action of a task, where its arguments are the values of an instance
abbrev pub action_of : Task → GroundTask → Option Action
action_of t g =
    option_and_then (λ a. cond (is_instance t (action_conditions t a) g.arguments) (Some (ground_action t g.arguments a)) None) (action_at t g.name)
