-- The parts of a list, a section or a text that were read so far, and the tree that they complete.
use Rattle.std.specs.Prelude.{ℕ, false, List, [], ◌∷◌, ◌++◌, Option, Some, None, unwrap_or}
use Rattle.hddl_words.specs.Names.{Name, Variable}
use Rattle.hddl_words.specs.declared.term.AtomText.{AtomText}
use Rattle.hddl_words.specs.declared.term.NameGroup.{NameGroup}
use Rattle.hddl_words.specs.declared.term.VariableGroup.{VariableGroup}
use Rattle.hddl_words.specs.declared.network.NetworkText.{NetworkText}
use Rattle.hddl_words.specs.declared.domain.TaskText.{TaskText}
use Rattle.hddl_words.specs.declared.domain.ActionText.{ActionText}
use Rattle.hddl_words.specs.declared.domain.MethodText.{MethodText}
use Rattle.hddl_words.specs.declared.domain.DomainText.{DomainText}
use Rattle.hddl_words.specs.declared.problem.HtnText.{HtnText}
use Rattle.hddl_words.specs.declared.problem.ProblemText.{ProblemText}
use Rattle.hddl_text.specs.declared.parts.NameParts.{NameParts}
use Rattle.hddl_text.specs.declared.parts.VariableParts.{VariableParts}
use Rattle.hddl_text.specs.declared.parts.NetworkParts.{NetworkParts}
use Rattle.hddl_text.specs.declared.parts.TaskParts.{TaskParts}
use Rattle.hddl_text.specs.declared.parts.ActionParts.{ActionParts}
use Rattle.hddl_text.specs.declared.parts.MethodParts.{MethodParts}
use Rattle.hddl_text.specs.declared.parts.HtnParts.{HtnParts}
use Rattle.hddl_text.specs.declared.parts.DomainParts.{DomainParts}
use Rattle.hddl_text.specs.declared.parts.ProblemParts.{ProblemParts}

-- ---- nothing was read so far

-- nothing read of a typed list of names
abbrev pub no_name_parts : NameParts
no_name_parts = record { groups = []; names = [] }

-- nothing read of a typed list of variables
abbrev pub no_variable_parts : VariableParts
no_variable_parts = record { groups = []; variables = [] }

-- nothing read of a network
abbrev pub no_network_parts : NetworkParts
no_network_parts = record { is_ordered = false; subtasks = None; orderings = None; constraints = None }

-- nothing read of a task
abbrev pub no_task_parts : TaskParts
no_task_parts = record { parameters = None; has_precondition = false; has_effect = false }

-- nothing read of an action
abbrev pub no_action_parts : ActionParts
no_action_parts = record { parameters = None; precondition = None; effect = None }

-- nothing read of a method
abbrev pub no_method_parts : MethodParts
no_method_parts = record { parameters = None; task = None; precondition = None; network = no_network_parts }

-- nothing read of the initial network
abbrev pub no_htn_parts : HtnParts
no_htn_parts = record { parameters = None; network = no_network_parts }

-- no section of a domain read
abbrev pub no_domain_parts : DomainParts
no_domain_parts = record { requirements = None; types = None; constants = None; predicates = None; tasks = []; methods = []; actions = [] }

-- no section of a problem read
abbrev pub no_problem_parts : ProblemParts
no_problem_parts = record { domain = None; requirements = None; objects = None; init = None; goal = None; htn = None }

-- ---- what the parts complete; what isn't written is empty

-- names with their type
abbrev pub name_group : List Name → Option Name → NameGroup
name_group names of_type = record { names = names; of_type = of_type }

-- variables with their type
abbrev pub variable_group : List Variable → Option Name → VariableGroup
variable_group variables of_type = record { variables = variables; of_type = of_type }

-- the names that no type has followed are a last group without one
abbrev pub grouped_names : List NameGroup → List Name → List NameGroup
grouped_names groups [] = groups
grouped_names groups (n ∷ ns) = groups ++ name_group (n ∷ ns) None ∷ []

-- the groups with the variables after the last type as one more, if there are any
abbrev pub grouped_variables : List VariableGroup → List Variable → List VariableGroup
grouped_variables groups [] = groups
grouped_variables groups (v ∷ vs) = groups ++ variable_group (v ∷ vs) None ∷ []

-- the network of what was read: what is absent is empty
abbrev pub network_of : NetworkParts → NetworkText
network_of d = record {
  is_ordered = d.is_ordered;
  subtasks = unwrap_or d.subtasks [];
  orderings = unwrap_or d.orderings [];
  constraints = unwrap_or d.constraints [];
}

-- the task of what was read
abbrev pub task_of : Name → TaskParts → TaskText
task_of name d = record { name = name; parameters = unwrap_or d.parameters [] }

-- the action of what was read: what is absent is empty
abbrev pub action_of : Name → ActionParts → ActionText
action_of name d = record {
  name = name;
  parameters = unwrap_or d.parameters [];
  precondition = unwrap_or d.precondition [];
  effect = unwrap_or d.effect [];
}

-- a method must have its task
abbrev pub method_with : ℕ → Name → MethodParts → Option AtomText → Option MethodText
method_with place name d None = None
method_with place name d (Some task) = Some (record {
  place = place;
  name = name;
  parameters = unwrap_or d.parameters [];
  task = task;
  precondition = unwrap_or d.precondition [];
  network = network_of d.network;
})

-- the method of what was read, if it has its task
abbrev pub method_of : ℕ → Name → MethodParts → Option MethodText
method_of place name d = method_with place name d d.task

-- the initial network of what was read
abbrev pub htn_of : ℕ → HtnParts → HtnText
htn_of place d = record { place = place; parameters = unwrap_or d.parameters []; network = network_of d.network }

-- the domain of what was read: what is absent is empty
abbrev pub domain_of : Name → DomainParts → DomainText
domain_of name d = record {
  name = name;
  requirements = unwrap_or d.requirements [];
  types = unwrap_or d.types [];
  constants = unwrap_or d.constants [];
  predicates = unwrap_or d.predicates [];
  tasks = d.tasks;
  methods = d.methods;
  actions = d.actions;
}

-- a problem must have its domain's name and its network
abbrev pub problem_with : Name → ProblemParts → Option Name → Option HtnText → Option ProblemText
problem_with name d (Some domain) (Some htn) = Some (record {
  name = name;
  domain = domain;
  requirements = unwrap_or d.requirements [];
  objects = unwrap_or d.objects [];
  init = unwrap_or d.init [];
  goal = unwrap_or d.goal [];
  htn = htn;
})
problem_with name d _ _ = None

-- the problem of what was read, if it names its domain and has an initial network
abbrev pub problem_of : Name → ProblemParts → Option ProblemText
problem_of name d = problem_with name d d.domain d.htn
