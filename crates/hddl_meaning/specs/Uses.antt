-- The uses of names in a domain and a problem, as flat lists made from their trees.
use Rattle.std.specs.Prelude.{Bool, true, false, List, [], ◌∷◌, ◌++◌, map}
use Rattle.std.specs.List.{flat_map}
use Rattle.hddl_words.specs.declared.term.Term.{Term}
use Rattle.hddl_words.specs.declared.term.AtomText.{AtomText}
use Rattle.hddl_words.specs.declared.term.VariableGroup.{VariableGroup}
use Rattle.hddl_words.specs.declared.condition.EqualityText.{EqualityText}
use Rattle.hddl_words.specs.declared.condition.Condition.{Condition, fold-Condition}
use Rattle.hddl_words.specs.declared.condition.Condition.TheOpen.{Condition-F}
use Rattle.hddl_words.specs.declared.network.NetworkText.{NetworkText}
use Rattle.hddl_words.specs.declared.domain.MethodText.{MethodText}
use Rattle.hddl_words.specs.declared.domain.ActionText.{ActionText}
use Rattle.hddl_words.specs.declared.domain.DomainText.{DomainText}
use Rattle.hddl_words.specs.declared.problem.ProblemText.{ProblemText}
use Rattle.hddl_meaning.specs.Mentions.{Typed, typed_variables}

-- a variable in force: a parameter, or one that a `forall` around a use declares
pub record Variable : Type 0 where
  pub typed : Typed
  pub is_quantified : Bool

-- parameters as variables in force
abbrev pub parameters_of : List VariableGroup → List Variable
parameters_of groups = map (λ t. record { typed = t; is_quantified = false }) (typed_variables groups)

-- the variables of a `forall` as variables in force
abbrev pub quantified_of : List VariableGroup → List Variable
quantified_of groups = map (λ t. record { typed = t; is_quantified = true }) (typed_variables groups)

-- an atom, a task or an equality's side, with the variables in force there
pub record Use : Type 0 where
  pub variables : List Variable
  pub atom : AtomText

-- a term with the variables in force at it
pub record TermUse : Type 0 where
  pub variables : List Variable
  pub term : Term

-- a `forall`: the variables in force around it, and its own
pub record Quantifier : Type 0 where
  pub around : List Variable
  pub own : List VariableGroup

-- ## Conditions

-- the list that a part of a condition gives under its variables; the body of a `forall` has the variables of the
-- `forall` too
abbrev pub under : {X : Type 0} → List Variable → List VariableGroup → List (List Variable → List X) → List X
under variables groups body = flat_map (λ part. part (variables ++ quantified_of groups)) body

-- the atom of a literal, and those in the body of a `forall`
abbrev pub atoms_step : Condition-F (List Variable → List Use) → List Variable → List Use
atoms_step (Condition-F.Literal l) variables = record { variables = variables; atom = l.atom } ∷ []
atoms_step (Condition-F.Equality e) variables = []
atoms_step (Condition-F.Forall groups body) variables = under variables groups body

-- the atoms of a condition
abbrev pub atoms_in : List Variable → List Condition → List Use
atoms_in variables conditions = flat_map (λ c. fold-Condition (List Variable → List Use) atoms_step c variables) conditions

-- both sides of an equality
abbrev pub sides : List Variable → EqualityText → List TermUse
sides variables e = record { variables = variables; term = e.left } ∷ record { variables = variables; term = e.right } ∷ []

-- the sides of an equality, and those in the body of a `forall`
abbrev pub sides_step : Condition-F (List Variable → List TermUse) → List Variable → List TermUse
sides_step (Condition-F.Literal l) variables = []
sides_step (Condition-F.Equality e) variables = sides variables e
sides_step (Condition-F.Forall groups body) variables = under variables groups body

-- both sides of each equality of a condition
abbrev pub sides_in : List Variable → List Condition → List TermUse
sides_in variables conditions = flat_map (λ c. fold-Condition (List Variable → List TermUse) sides_step c variables) conditions

-- a `forall`, and those in its body
abbrev pub quantifiers_step : Condition-F (List Variable → List Quantifier) → List Variable → List Quantifier
quantifiers_step (Condition-F.Literal l) variables = []
quantifiers_step (Condition-F.Equality e) variables = []
quantifiers_step (Condition-F.Forall groups body) variables = record { around = variables; own = groups } ∷ under variables groups body

-- each `forall` in the conditions
abbrev pub quantifiers_in : List Variable → List Condition → List Quantifier
quantifiers_in variables conditions = flat_map (λ c. fold-Condition (List Variable → List Quantifier) quantifiers_step c variables) conditions

-- ## Schemas: methods, actions, the initial network and, without parameters, the initial atoms and the goal

-- the uses of names in one of them
pub record Schema : Type 0 where
  -- the parameters of a method, an action or the initial network
  pub parameters : List VariableGroup
  -- atoms of predicates
  pub atoms : List Use
  -- the task that a method decomposes
  pub decomposed : List Use
  -- tasks and actions of its network
  pub subtasks : List Use
  pub sides : List TermUse
  pub quantifiers : List Quantifier

-- the subtasks of a network, each as a use
abbrev pub subtasks_in : List Variable → NetworkText → List Use
subtasks_in variables n = map (λ s. record { variables = variables; atom = s.task }) n.subtasks

-- the sides of all constraints of a network
abbrev pub constraints_in : List Variable → NetworkText → List TermUse
constraints_in variables n = flat_map (sides variables) n.constraints

-- the uses and declarations of a method
abbrev pub schema_of_method : MethodText → Schema
schema_of_method m =
    let variables = parameters_of m.parameters in
    record {
      parameters = m.parameters;
      atoms = atoms_in variables m.precondition;
      decomposed = record { variables = variables; atom = m.task } ∷ [];
      subtasks = subtasks_in variables m.network;
      sides = sides_in variables m.precondition ++ constraints_in variables m.network;
      quantifiers = quantifiers_in variables m.precondition;
    }

-- the uses and declarations of an action
abbrev pub schema_of_action : ActionText → Schema
schema_of_action a =
    let variables = parameters_of a.parameters in
    record {
      parameters = a.parameters;
      atoms = atoms_in variables a.precondition ++ map (λ l. record { variables = variables; atom = l.atom }) a.effect;
      decomposed = [];
      subtasks = [];
      sides = sides_in variables a.precondition;
      quantifiers = quantifiers_in variables a.precondition;
    }

-- the uses and declarations of the initial network
abbrev pub schema_of_network : ProblemText → Schema
schema_of_network p =
    let variables = parameters_of p.htn.parameters in
    record {
      parameters = p.htn.parameters;
      atoms = [];
      decomposed = [];
      subtasks = subtasks_in variables p.htn.network;
      sides = constraints_in variables p.htn.network;
      quantifiers = [];
    }

-- the initial atoms and the goal, where no variable but a quantified one is in force
abbrev pub schema_of_states : ProblemText → Schema
schema_of_states p = record {
  parameters = [];
  atoms = map (λ a. record { variables = []; atom = a }) p.init ++ atoms_in [] p.goal;
  decomposed = [];
  subtasks = [];
  sides = sides_in [] p.goal;
  quantifiers = quantifiers_in [] p.goal;
}

-- the uses and declarations of each method and each action of a domain
abbrev pub domain_schemas : DomainText → List Schema
domain_schemas d = map schema_of_method d.methods ++ map schema_of_action d.actions

-- the uses and declarations of the initial network, and of the initial state with the goal
abbrev pub problem_schemas : ProblemText → List Schema
problem_schemas p = schema_of_network p ∷ schema_of_states p ∷ []
