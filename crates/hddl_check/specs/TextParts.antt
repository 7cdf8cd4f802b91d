-- The parts of a schema, a domain and a problem that have conditions on them.
use Rattle.std.specs.Prelude.{◌⊎◌, List, [], ◌∷◌, ◌++◌, map}
use Rattle.std.specs.List.{flat_map}
use Rattle.hddl_words.specs.declared.term.VariableGroup.{VariableGroup}
use Rattle.hddl_words.specs.declared.domain.PredicateText.{PredicateText}
use Rattle.hddl_words.specs.declared.domain.TaskText.{TaskText}
use Rattle.hddl_words.specs.declared.domain.MethodText.{MethodText}
use Rattle.hddl_words.specs.declared.domain.ActionText.{ActionText}
use Rattle.hddl_words.specs.declared.domain.DomainText.{DomainText}
use Rattle.hddl_words.specs.declared.problem.ProblemText.{ProblemText}
use Rattle.hddl_meaning.specs.Mentions.{Mention, mention_of, mentions_of, typed_names, typed_variables}
use Rattle.hddl_meaning.specs.Uses.{Schema, schema_of_method, schema_of_action, schema_of_network, schema_of_states}
use Rattle.hddl_meaning.specs.Items as items
use Rattle.hddl_meaning.specs.declared.fault.Source.TheVariants as source
use Rattle.hddl_meaning.specs.declared.fault.CheckFault.{CheckFault}
use Rattle.hddl_scope.specs.Findings.{AnyOf}
use Rattle.hddl_uses.specs.Parts.{Part, FailsIn, Different, Limited, Atom, Decomposed, Subtask, Side, Types, Objects, type_parts, quantifier_parts, network_parts}

-- the parts of parameters: they differ, are few enough, and have declared types
abbrev pub parameter_parts : List VariableGroup → List Part
parameter_parts groups =
    let mentions = mentions_of (typed_variables groups) in
    Different mentions ∷ Limited items.most_parameters mentions ∷ type_parts (typed_variables groups)

-- the parts of a schema's uses and declarations, but for its parameters
abbrev pub inner_parts : Schema → List Part
inner_parts s =
    map Atom s.atoms ++ (flat_map quantifier_parts s.quantifiers ++ (map Side s.sides ++ (map Decomposed s.decomposed ++ map Subtask s.subtasks)))

-- the parts of a method, an action or the initial network: those of its parameters, and others
abbrev pub schema_parts : Schema → List Part
schema_parts s = parameter_parts s.parameters ++ inner_parts s

-- the parts of a method's network
abbrev pub method_network_parts : MethodText → List Part
method_network_parts m = network_parts m.place m.network

-- the parts of a method apart from its network
abbrev pub method_parts : MethodText → List Part
method_parts m = schema_parts (schema_of_method m)

-- the parts of an action
abbrev pub action_parts : ActionText → List Part
action_parts a = schema_parts (schema_of_action a)

-- the parts of a predicate's declaration: parameters that are few enough, with declared types
abbrev pub predicate_parts : PredicateText → List Part
predicate_parts x = Limited items.most_parameters (mentions_of (typed_variables x.parameters)) ∷ type_parts (typed_variables x.parameters)

-- the parts of a task's declaration: declared types of parameters
abbrev pub task_parts : TaskText → List Part
task_parts x = type_parts (typed_variables x.parameters)

-- the names of one kind, which differ and are few enough
abbrev pub name_parts : List Mention → List Part
name_parts mentions = Different mentions ∷ Limited items.most_declarations mentions ∷ []

-- the names of tasks and actions, which differ together, the actions by themselves too, and are few enough each
abbrev pub task_name_parts : DomainText → List Part
task_name_parts d =
    let tasks = map (λ x. mention_of x.name) d.tasks in
    let actions = map (λ x. mention_of x.name) d.actions in
    Different actions ∷ Different (tasks ++ actions) ∷ Limited items.most_declarations tasks ∷ Limited items.most_declarations actions ∷ []

-- the parts of a domain: its declared names, and then the parts of its declarations
abbrev pub declared_parts : DomainText → List Part
declared_parts d =
    Types ∷ Objects ∷ (type_parts (typed_names d.constants)
    ++ (name_parts (map (λ x. mention_of x.name) d.predicates) ++ (name_parts (map (λ x. mention_of x.name) d.methods) ++ task_name_parts d)))

-- the parts of the predicates, tasks, methods and actions of a domain
abbrev pub body_parts : DomainText → List Part
body_parts d =
    flat_map predicate_parts d.predicates ++ (flat_map task_parts d.tasks ++ (flat_map method_parts d.methods ++ (flat_map method_network_parts d.methods
    ++ flat_map action_parts d.actions)))

-- all parts of a domain
abbrev pub domain_parts : DomainText → List Part
domain_parts d = declared_parts d ++ body_parts d

-- all parts of a problem
abbrev pub problem_parts : ProblemText → List Part
problem_parts p =
    Objects ∷ (type_parts (typed_names p.objects) ++ (schema_parts (schema_of_network p) ++ (network_parts p.htn.place p.htn.network
    ++ schema_parts (schema_of_states p))))

-- a part of one of the texts fails
abbrev pub PartFails : DomainText → ProblemText → CheckFault → Type 0
PartFails d p f = AnyOf (FailsIn d p source.Domain) (domain_parts d) f ⊎ AnyOf (FailsIn d p source.Problem) (problem_parts p) f
