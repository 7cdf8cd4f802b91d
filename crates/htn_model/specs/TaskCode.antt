-- Tasks as values: each part has a code that distinguishes its values.
use Rattle.std.specs.Prelude.{◌≡◌, ℕ, Bool, List, ◌⊎◌, refl}
use Rattle.std.proofs.Common.{ap, ap₂}
use Rattle.std.specs.Coded.{Coded, code_by, coded×, coded⊎, coded_ℕ, coded_bool, coded_list}
use base.Stored.{Gv, gnil, gnum, gcons}
use mathlib.Core.Logic.{inl, inr}
use Rattle.htn_model.specs.State.{State, state_code}
use Rattle.htn_model.specs.Problem.{Order, order_code}
use Rattle.htn_model.specs.Schema.{Name, Term, parameter, object, AtomSchema, EqualitySchema, TaskSchema, Formula, literal, equation, for_all, Formulas, no_formulas, formula, NetworkSchema}
use Rattle.htn_model.specs.Task.{ObjectType, Declaration, MethodSchema, ActionSchema, InitialSchema, Task}

-- ## Terms, atoms and networks

-- names as values: their bytes in turn
abbrev pub name_code : Coded Name
name_code = coded_list coded_ℕ

-- lists of numbers as values
abbrev pub numbers_code : Coded (List ℕ)
numbers_code = coded_list coded_ℕ

-- a term as the number of a parameter or of an object
abbrev pub term_parts : Term → ℕ ⊎ ℕ
term_parts (parameter p) = inl p
term_parts (object o) = inr o

-- the term of that number
abbrev pub term_of : ℕ ⊎ ℕ → Term
term_of (inl p) = parameter p
term_of (inr o) = object o

-- a term is that of its number
pub term_of-parts : (x : Term) → term_of (term_parts x) ≡ x
term_of-parts (parameter p) = refl
term_of-parts (object o) = refl

-- terms as values
abbrev pub term_code : Coded Term
term_code = code_by (ℕ ⊎ ℕ) (coded⊎ coded_ℕ coded_ℕ) term_parts term_of term_of-parts

-- atoms as values: their parts in turn
abbrev pub atom_schema_code : Coded AtomSchema
atom_schema_code =
    code_by (ℕ × List Term) (coded× coded_ℕ (coded_list term_code)) (λ a. (a.predicate, a.arguments)) (λ p. record { predicate = p.0; arguments = p.1 }) (λ _. refl)

-- equalities as values: their parts in turn
abbrev pub equality_schema_code : Coded EqualitySchema
equality_schema_code =
    code_by (Bool × (Term × Term)) (coded× coded_bool (coded× term_code term_code)) (λ e. (e.is_positive, (e.left, e.right)))
    (λ p. record { is_positive = p.0; left = p.1.0; right = p.1.1 }) (λ _. refl)

-- tasks as values: their parts in turn
abbrev pub task_schema_code : Coded TaskSchema
task_schema_code = code_by (ℕ × List Term) (coded× coded_ℕ (coded_list term_code)) (λ s. (s.name, s.arguments)) (λ p. record { name = p.0; arguments = p.1 }) (λ _. refl)

-- networks as values: their parts in turn
abbrev pub network_schema_code : Coded NetworkSchema
network_schema_code =
    code_by (List TaskSchema × Order) (coded× (coded_list task_schema_code) order_code) (λ n. (n.subtasks, n.order)) (λ p. record { subtasks = p.0; order = p.1 }) (λ _. refl)

-- ## Formulas

-- a sign with an atom as a value
abbrev pub literal_parts_code : Coded (Bool × AtomSchema)
literal_parts_code = coded× coded_bool atom_schema_code

abbrev mutual
  -- a formula as a value that can be compared
  pub formula_tree : Formula → Gv
  formula_tree (literal positive a) = gcons (gnum 0) (literal_parts_code.code (positive, a))
  formula_tree (equation e) = gcons (gnum 1) (equality_schema_code.code e)
  formula_tree (for_all types body) = gcons (gnum 2) (gcons (numbers_code.code types) (formulas_tree body))

  -- formulas as such a value
  pub formulas_tree : Formulas → Gv
  formulas_tree no_formulas = gnil
  formulas_tree (formula f fs) = gcons (formula_tree f) (formulas_tree fs)

mutual
  -- formulas with one such value are one
  pub same_formula : (f g : Formula) → formula_tree f ≡ formula_tree g → f ≡ g
  same_formula (literal p a) (literal q b) e =
      let parts : literal_parts_code.code (p, a) ≡ literal_parts_code.code (q, b) = cc in
      ap (λ (x : Bool × AtomSchema). literal x.0 x.1) (literal_parts_code.inj (p, a) (q, b) parts)
  same_formula (literal p a) (equation d) e = absurd cc
  same_formula (literal p a) (for_all types body) e = absurd cc
  same_formula (equation d) (literal q b) e = absurd cc
  same_formula (equation d) (equation c) e =
      let parts : equality_schema_code.code d ≡ equality_schema_code.code c = cc in
      ap equation (equality_schema_code.inj d c parts)
  same_formula (equation d) (for_all types body) e = absurd cc
  same_formula (for_all types body) (literal q b) e = absurd cc
  same_formula (for_all types body) (equation c) e = absurd cc
  same_formula (for_all types body) (for_all others rest) e =
      let left : numbers_code.code types ≡ numbers_code.code others = cc in
      let right : formulas_tree body ≡ formulas_tree rest = cc in
      ap₂ for_all (numbers_code.inj types others left) (same_formulas body rest right)

  -- lists of formulas with equal trees are equal
  pub same_formulas : (fs gs : Formulas) → formulas_tree fs ≡ formulas_tree gs → fs ≡ gs
  same_formulas no_formulas no_formulas e = refl
  same_formulas no_formulas (formula g gs) e = absurd cc
  same_formulas (formula f fs) no_formulas e = absurd cc
  same_formulas (formula f fs) (formula g gs) e =
      let left : formula_tree f ≡ formula_tree g = cc in
      let right : formulas_tree fs ≡ formulas_tree gs = cc in
      ap₂ formula (same_formula f g left) (same_formulas fs gs right)

-- formulas as values: the trees that they are
abbrev pub formula_code : Coded Formula
formula_code = record { code = formula_tree; inj = same_formula }

-- ## Tasks

-- types as values: their names and objects
abbrev pub object_type_code : Coded ObjectType
object_type_code = code_by (Name × List ℕ) (coded× name_code numbers_code) (λ d. (d.name, d.objects)) (λ p. record { name = p.0; objects = p.1 }) (λ _. refl)

-- declarations as values: their names and types
abbrev pub declaration_code : Coded Declaration
declaration_code = code_by (Name × List ℕ) (coded× name_code numbers_code) (λ d. (d.name, d.types)) (λ p. record { name = p.0; types = p.1 }) (λ _. refl)

-- the parts of a method, as pairs
abbrev pub MethodParts : Type 0
MethodParts = Name × (List ℕ × (TaskSchema × (List Formula × (List EqualitySchema × NetworkSchema))))

-- methods as values: their parts in turn
abbrev pub method_schema_code : Coded MethodSchema
method_schema_code =
    code_by MethodParts
    (coded× name_code (coded× numbers_code (coded× task_schema_code (coded× (coded_list formula_code) (coded× (coded_list equality_schema_code) network_schema_code)))))
    (λ m. (m.name, (m.parameters, (m.task, (m.precondition, (m.constraints, m.network))))))
    (λ p. record { name = p.0; parameters = p.1.0; task = p.1.1.0; precondition = p.1.1.1.0; constraints = p.1.1.1.1.0; network = p.1.1.1.1.1 }) (λ _. refl)

-- the parts of an action, as pairs
abbrev pub ActionParts : Type 0
ActionParts = Name × (List ℕ × (List Formula × (List AtomSchema × List AtomSchema)))

-- actions as values: their parts in turn
abbrev pub action_schema_code : Coded ActionSchema
action_schema_code =
    code_by ActionParts (coded× name_code (coded× numbers_code (coded× (coded_list formula_code) (coded× (coded_list atom_schema_code) (coded_list atom_schema_code)))))
    (λ a. (a.name, (a.parameters, (a.precondition, (a.deletes, a.adds)))))
    (λ p. record { name = p.0; parameters = p.1.0; precondition = p.1.1.0; deletes = p.1.1.1.0; adds = p.1.1.1.1 }) (λ _. refl)

-- initial networks as values: their parts in turn
abbrev pub initial_schema_code : Coded InitialSchema
initial_schema_code =
    code_by (List ℕ × (List EqualitySchema × NetworkSchema)) (coded× numbers_code (coded× (coded_list equality_schema_code) network_schema_code))
    (λ n. (n.parameters, (n.constraints, n.network))) (λ p. record { parameters = p.0; constraints = p.1.0; network = p.1.1 }) (λ _. refl)

-- what a domain declares
abbrev pub DomainParts : Type 0
DomainParts = List Name × (List ObjectType × (List Declaration × (List Declaration × (List MethodSchema × List ActionSchema))))

-- the parts of a task that a problem gives, as pairs
abbrev pub ProblemParts : Type 0
ProblemParts = InitialSchema × (State × List Formula)

-- tasks as values: their parts in turn
abbrev pub task_code : Coded Task
task_code =
    code_by (DomainParts × ProblemParts)
    (coded×
    (coded× (coded_list name_code)
    (coded× (coded_list object_type_code)
    (coded× (coded_list declaration_code) (coded× (coded_list declaration_code) (coded× (coded_list method_schema_code) (coded_list action_schema_code))))))
    (coded× initial_schema_code (coded× state_code (coded_list formula_code))))
    (λ t. ((t.objects, (t.types, (t.predicates, (t.tasks, (t.methods, t.actions))))), (t.initial_network, (t.initial_atoms, t.goal))))
    (λ p. record {
      objects = p.0.0;
      types = p.0.1.0;
      predicates = p.0.1.1.0;
      tasks = p.0.1.1.1.0;
      methods = p.0.1.1.1.1.0;
      actions = p.0.1.1.1.1.1;
      initial_network = p.1.0;
      initial_atoms = p.1.1.0;
      goal = p.1.1.1;
    })
    (λ _. refl)
