-- The uses of names in a domain and a problem, as flat lists.
use Rattle.std.specs.Prelude.{List, [], ◌∷◌, ◌++◌, map, Option, Some, None}
use Rattle.std.specs.List.{flat_map}
use Rattle.hddl_words.specs.Names.{Name}
use Rattle.hddl_words.specs.declared.term.Term.{Term}
use Rattle.hddl_words.specs.declared.term.Term.TheVariants as term
use Rattle.hddl_words.specs.declared.term.AtomText.{AtomText}
use Rattle.hddl_words.specs.declared.term.NameGroup.{NameGroup}
use Rattle.hddl_words.specs.declared.term.VariableGroup.{VariableGroup}
use Rattle.hddl_words.specs.declared.condition.Condition.{Condition}
use Rattle.hddl_words.specs.declared.condition.EqualityText.{EqualityText}
use Rattle.hddl_words.specs.declared.network.NetworkText.{NetworkText}
use Rattle.hddl_words.specs.declared.domain.DomainText.{DomainText}
use Rattle.hddl_words.specs.declared.problem.ProblemText.{ProblemText}
use Rattle.hddl_meaning.specs.Mentions.{Text, folded}
use Rattle.hddl_meaning.specs.Uses.{Schema, atoms_in, quantifiers_in}
use Rattle.hddl_meaning.specs.Items.{terms_in}

-- ## Names and terms as they are compared

-- a name in lower case
abbrev pub name_text : Name → Text
name_text x = folded x.text

-- names in lower case
abbrev pub name_texts : List Name → List Text
name_texts names = map name_text names

-- a variable or an object in lower case
abbrev pub term_text : Term → Text
term_text (term.Variable x) = folded x.text
term_text (term.Object x) = folded x.text

-- the texts of the terms in a method or an action: arguments of atoms and tasks, and sides of equalities
abbrev pub term_texts : Schema → List Text
term_texts s = map (λ u. term_text u.term) (terms_in s)

-- ## Tasks

-- the names of the subtasks of a network
abbrev pub subtasks_of : NetworkText → List Name
subtasks_of n = map (λ s. s.task.name) n.subtasks

-- the subtasks of the network of a problem, if there is one
abbrev pub initial_names : Option ProblemText → List Name
initial_names None = []
initial_names (Some p) = subtasks_of p.htn.network

-- the subtasks of methods and, with a problem, of its network
abbrev pub subtask_names : DomainText → Option ProblemText → List Name
subtask_names d p = flat_map (λ m. subtasks_of m.network) d.methods ++ initial_names p

-- the tasks that methods decompose
abbrev pub decomposed_names : DomainText → List Name
decomposed_names d = map (λ m. m.task.name) d.methods

-- ## Predicates

-- the atoms in conditions
abbrev pub atoms_of : List Condition → List AtomText
atoms_of conditions = map (λ u. u.atom) (atoms_in [] conditions)

-- the atoms of preconditions and of the goal
abbrev pub tested_atoms : DomainText → ProblemText → List AtomText
tested_atoms d p = flat_map (λ m. atoms_of m.precondition) d.methods ++ flat_map (λ a. atoms_of a.precondition) d.actions ++ atoms_of p.goal

-- the atoms of effects and of the initial state
abbrev pub set_atoms : DomainText → ProblemText → List AtomText
set_atoms d p = flat_map (λ a. map (λ l. l.atom) a.effect) d.actions ++ p.init

-- the names of the predicates of atoms
abbrev pub predicates_of : List AtomText → List Text
predicates_of atoms = map (λ a. name_text a.name) atoms

-- ## Types

-- the type of a group, if one is written
abbrev pub written : Option Name → List Name
written None = []
written (Some x) = x ∷ []

-- the types of groups of names
abbrev pub name_types : List NameGroup → List Name
name_types groups = flat_map (λ g. written g.of_type) groups

-- the types of groups of variables
abbrev pub variable_types : List VariableGroup → List Name
variable_types groups = flat_map (λ g. written g.of_type) groups

-- the types of parameters of predicates and tasks
abbrev pub declared_types : DomainText → List Name
declared_types d = flat_map (λ x. variable_types x.parameters) d.predicates ++ flat_map (λ x. variable_types x.parameters) d.tasks

-- the types of parameters of methods, of actions and of the initial network
abbrev pub parameter_types : DomainText → ProblemText → List Name
parameter_types d p =
    flat_map (λ m. variable_types m.parameters) d.methods ++ flat_map (λ a. variable_types a.parameters) d.actions
    ++ variable_types p.htn.parameters

-- the variables of the `forall`s in conditions
abbrev pub groups_of : List Condition → List VariableGroup
groups_of conditions = flat_map (λ q. q.own) (quantifiers_in [] conditions)

-- the variables of the `forall`s in preconditions and in the goal
abbrev pub quantified_groups : DomainText → ProblemText → List VariableGroup
quantified_groups d p = flat_map (λ m. groups_of m.precondition) d.methods ++ flat_map (λ a. groups_of a.precondition) d.actions ++ groups_of p.goal

-- the types that are written for types, of which they are the parents, for constants, objects and variables
abbrev pub used_types : DomainText → ProblemText → List Name
used_types d p =
    name_types d.types ++ name_types d.constants ++ name_types p.objects ++ declared_types d ++ parameter_types d p
    ++ variable_types (quantified_groups d p)

-- ## Equalities

-- both sides of an equality
abbrev pub sides_of : EqualityText → List Term
sides_of e = e.left ∷ e.right ∷ []
