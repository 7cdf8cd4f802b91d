-- The task of a domain and a problem.
use Rattle.std.specs.Prelude.{◌≡◌, ℕ, ◌<◌, ◌↔◌, Bool, true, List, [], ◌++◌, map, length, Some, slice_get, not, Contains}
use Rattle.std.specs.List.{filter, AllZip}
use Rattle.std.specs.List.Sorted.{IsStrictlySortedBy}
use Rattle.std.specs.Ordering.{nat_cmp}
use Rattle.htn_model.specs.State.{set_of}
use Rattle.htn_model.specs.Schema as model
use Rattle.htn_model.specs.Task as model_task
use Rattle.htn_model.specs.Instances.{ground_atom}
use Rattle.hddl_words.specs.declared.term.Term.{Term}
use Rattle.hddl_words.specs.declared.term.Term.TheVariants as term
use Rattle.hddl_words.specs.declared.term.AtomText.{AtomText}
use Rattle.hddl_words.specs.declared.term.VariableGroup.{VariableGroup}
use Rattle.hddl_words.specs.declared.condition.LiteralText.{LiteralText}
use Rattle.hddl_words.specs.declared.condition.EqualityText.{EqualityText}
use Rattle.hddl_words.specs.declared.condition.Condition.{Condition, fold-Condition}
use Rattle.hddl_words.specs.declared.condition.Condition.TheOpen.{Condition-F}
use Rattle.hddl_words.specs.declared.network.NetworkText.{NetworkText}
use Rattle.hddl_words.specs.declared.domain.PredicateText.{PredicateText}
use Rattle.hddl_words.specs.declared.domain.TaskText.{TaskText}
use Rattle.hddl_words.specs.declared.domain.MethodText.{MethodText}
use Rattle.hddl_words.specs.declared.domain.ActionText.{ActionText}
use Rattle.hddl_words.specs.declared.domain.DomainText.{DomainText}
use Rattle.hddl_words.specs.declared.problem.ProblemText.{ProblemText}
use Rattle.hddl_meaning.specs.Mentions.{Text, folded, mentions_of, texts, typed_variables}
use Rattle.hddl_meaning.specs.Names.{number_in, distinct, type_names, object_names, predicate_names, task_names}
use Rattle.hddl_meaning.specs.Types.{text_or_object, HasType}
use Rattle.hddl_meaning.specs.Networks.{IsOrderOf}

-- the declared names of each kind, each once: a name's number is its position
pub record Vocabulary : Type 0 where
  pub types : List Text
  pub objects : List Text
  pub predicates : List Text
  pub tasks : List Text

-- the names of each kind that a pair declares, each once
abbrev pub vocabulary_of : DomainText → ProblemText → Vocabulary
vocabulary_of d p =
    record { types = type_names d; objects = object_names d p; predicates = distinct (predicate_names d); tasks = distinct (task_names d) }

-- ## Schemas. Variables in force are a list of texts: the parameters, and then those of each `forall` around

-- the numbers of the declared types
abbrev pub types_of : Vocabulary → List VariableGroup → List ℕ
types_of v groups = map (λ t. number_in v.types (text_or_object t.of_type)) (typed_variables groups)

-- the texts of the variables of a typed list
abbrev pub variables_of : List VariableGroup → List Text
variables_of groups = texts (mentions_of (typed_variables groups))

-- a term by number: a variable by its place among those in force, an object by its name
abbrev pub term_of : Vocabulary → List Text → Term → model.Term
term_of v variables (term.Variable x) = model.parameter (number_in variables (folded x.text))
term_of v variables (term.Object x) = model.object (number_in v.objects (folded x.text))

-- an atom with its predicate and its terms by number
abbrev pub atom_of : Vocabulary → List Text → AtomText → model.AtomSchema
atom_of v variables a = record { predicate = number_in v.predicates (folded a.name.text); arguments = map (term_of v variables) a.terms }

-- a subtask with its task and its terms by number
abbrev pub subtask_of : Vocabulary → List Text → AtomText → model.TaskSchema
subtask_of v variables a = record { name = number_in v.tasks (folded a.name.text); arguments = map (term_of v variables) a.terms }

-- an equality with its sides by number
abbrev pub equality_of : Vocabulary → List Text → EqualityText → model.EqualitySchema
equality_of v variables e = record { is_positive = e.is_positive; left = term_of v variables e.left; right = term_of v variables e.right }

-- one level, with each part of a body given what it is under its variables
abbrev pub formula_step : Vocabulary → Condition-F (List Text → model.Formula) → List Text → model.Formula
formula_step v (Condition-F.Literal l) variables = model.literal l.is_positive (atom_of v variables l.atom)
formula_step v (Condition-F.Equality e) variables = model.equation (equality_of v variables e)
formula_step v (Condition-F.Forall groups body) variables =
    model.for_all (types_of v groups) (model.formulas_of (map (λ f. f (variables ++ variables_of groups)) body))

-- a condition by number, given the variables in force
abbrev pub formula_of : Vocabulary → Condition → List Text → model.Formula
formula_of v = fold-Condition (List Text → model.Formula) (formula_step v)

-- each condition by number
abbrev pub formulas_of : Vocabulary → List Text → List Condition → List model.Formula
formulas_of v variables conditions = map (λ c. formula_of v c variables) conditions

-- the atoms, by numbers, of those literals of an effect whose sign passes a test
abbrev pub effects_of : Vocabulary → List Text → (Bool → Bool) → List LiteralText → List model.AtomSchema
effects_of v variables kept effect = map (λ l. atom_of v variables l.atom) (filter (λ l. kept l.is_positive) effect)

-- ## Parts

-- the declaration of a predicate: its name and the types of its parameters
abbrev pub predicate_of : Vocabulary → PredicateText → model_task.Declaration
predicate_of v x = record { name = folded x.name.text; types = types_of v x.parameters }

-- the declaration of a compound task: its name and the types of its parameters
abbrev pub compound_of : Vocabulary → TaskText → model_task.Declaration
compound_of v x = record { name = folded x.name.text; types = types_of v x.parameters }

-- an action by number, with what it deletes and adds apart
abbrev pub action_of : Vocabulary → ActionText → model_task.ActionSchema
action_of v x =
    let variables = variables_of x.parameters in
    record {
      name = folded x.name.text;
      parameters = types_of v x.parameters;
      precondition = formulas_of v variables x.precondition;
      deletes = effects_of v variables not x.effect;
      adds = effects_of v variables (λ b. b) x.effect;
    }

-- the subtasks in declared order, and the closed order
pub record IsNetworkOf (v : Vocabulary) (variables : List Text) (text : NetworkText) (network : model.NetworkSchema) : Type 0 where
  pub subtasks : network.subtasks ≡ map (λ s. subtask_of v variables s.task) text.subtasks
  pub order : IsOrderOf text network.order

-- a method by number, part by part
pub record IsMethodOf (v : Vocabulary) (x : MethodText) (m : model_task.MethodSchema) : Type 0 where
  pub name : m.name ≡ folded x.name.text
  pub parameters : m.parameters ≡ types_of v x.parameters
  pub task : m.task ≡ subtask_of v (variables_of x.parameters) x.task
  pub precondition : m.precondition ≡ formulas_of v (variables_of x.parameters) x.precondition
  pub constraints : m.constraints ≡ map (equality_of v (variables_of x.parameters)) x.network.constraints
  pub network : IsNetworkOf v (variables_of x.parameters) x.network m.network

-- the task of the pair. Of a type that is named for a place, a parameter or a quantified variable it has exactly the
-- objects that have it, ascending, and of another type none
pub record IsTaskOf (d : DomainText) (p : ProblemText) (t : model_task.Task) : Type 0 where
  pub objects : t.objects ≡ object_names d p
  pub types : map (λ x. x.name) t.types ≡ type_names d
  pub ascending : (k : ℕ) (type : model_task.ObjectType) → slice_get t.types k ≡ Some type → IsStrictlySortedBy nat_cmp type.objects
  pub members : (k o : ℕ) (type : model_task.ObjectType) (name : Text) → slice_get t.types k ≡ Some type → slice_get t.objects o ≡ Some name
      → (model_task.has_type t k o ≡ true) ↔ (Contains (model_task.named_types t) k × HasType d p name type.name)
  pub within : (k o : ℕ) → model_task.has_type t k o ≡ true → o < length t.objects
  pub predicates : t.predicates ≡ map (predicate_of (vocabulary_of d p)) d.predicates
  pub tasks : t.tasks ≡ map (compound_of (vocabulary_of d p)) d.tasks
  pub methods : AllZip (IsMethodOf (vocabulary_of d p)) d.methods t.methods
  pub actions : t.actions ≡ map (action_of (vocabulary_of d p)) d.actions
  pub parameters : t.initial_network.parameters ≡ types_of (vocabulary_of d p) p.htn.parameters
  pub constraints : t.initial_network.constraints ≡ map (equality_of (vocabulary_of d p) (variables_of p.htn.parameters)) p.htn.network.constraints
  pub network : IsNetworkOf (vocabulary_of d p) (variables_of p.htn.parameters) p.htn.network t.initial_network.network
  pub initial_atoms : t.initial_atoms ≡ set_of (map (λ a. ground_atom [] (atom_of (vocabulary_of d p) [] a)) p.init)
  pub goal : t.goal ≡ formulas_of (vocabulary_of d p) [] p.goal
