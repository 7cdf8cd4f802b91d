-- Small trees and where they fail, or what they mean.
use Rattle.std.specs.Prelude.{◌≡◌, ℕ, ◌+◌, true, false, List, [], ◌∷◌, length, codes, replicate, Some, None}
use Rattle.htn_model.specs.State.{set_of}
use Rattle.htn_model.specs.Schema as model
use Rattle.htn_model.specs.Task.{Task}
use Rattle.hddl_words.specs.Names.{Name, Variable}
use Rattle.hddl_words.specs.declared.term.Term.{Term}
use Rattle.hddl_words.specs.declared.term.Term.TheVariants as term
use Rattle.hddl_words.specs.declared.term.AtomText.{AtomText}
use Rattle.hddl_words.specs.declared.term.VariableGroup.{VariableGroup}
use Rattle.hddl_words.specs.declared.condition.Condition.{Condition, roll-Condition}
use Rattle.hddl_words.specs.declared.condition.Condition.TheOpen.{Condition-F}
use Rattle.hddl_words.specs.declared.network.SubtaskText.{SubtaskText}
use Rattle.hddl_words.specs.declared.network.NetworkText.{NetworkText}
use Rattle.hddl_words.specs.declared.domain.PredicateText.{PredicateText}
use Rattle.hddl_words.specs.declared.domain.ActionText.{ActionText}
use Rattle.hddl_words.specs.declared.domain.DomainText.{DomainText}
use Rattle.hddl_words.specs.declared.problem.ProblemText.{ProblemText}
use Rattle.hddl_meaning.specs.Names.{type_names}
use Rattle.hddl_meaning.specs.Networks.{order_pairs}
use Rattle.hddl_meaning.specs.Building.{IsTaskOf, formula_of, vocabulary_of}
use Rattle.hddl_meaning.specs.Items.{FailsAt, IsWellTypedPair}
use Rattle.hddl_meaning.specs.declared.fault.Source.TheVariants as source
use Rattle.hddl_meaning.specs.declared.fault.At.{At}
use Rattle.hddl_meaning.specs.declared.fault.CheckFault.TheVariants as fault

-- ## Parts

-- a name at a place
abbrev pub called : ℕ → List ℕ → Name
called place text = record { place = place; text = text }

-- a variable at a place
abbrev pub variable : ℕ → List ℕ → Variable
variable place text = record { place = place; text = text }

-- an atom with these terms
abbrev pub at_terms : Name → List Term → AtomText
at_terms name terms = record { name = name; terms = terms }

-- one variable with its type
abbrev pub typed_as : Variable → Name → List VariableGroup
typed_as x type = record { variables = x ∷ []; of_type = Some type } ∷ []

-- one variable without a type
abbrev pub untyped : Variable → List VariableGroup
untyped x = record { variables = x ∷ []; of_type = None } ∷ []

-- a predicate with these parameters
abbrev pub predicate : Name → List VariableGroup → PredicateText
predicate name parameters = record { name = name; parameters = parameters }

-- an action without an effect
abbrev pub action : Name → List VariableGroup → List Condition → ActionText
action name parameters precondition = record { name = name; parameters = parameters; precondition = precondition; effect = [] }

-- an atom as a condition
abbrev pub atom : AtomText → Condition
atom a = roll-Condition (Condition-F.Literal (record { is_positive = true; atom = a }))

-- a condition for all objects of the groups
abbrev pub for_all : List VariableGroup → List Condition → Condition
for_all groups body = roll-Condition (Condition-F.Forall groups body)

-- a network without subtasks
abbrev pub no_network : NetworkText
no_network = record { is_ordered = true; subtasks = []; orderings = []; constraints = [] }

-- `(define (domain d))`
abbrev pub empty_domain : DomainText
empty_domain = record {
  name = called 16 (codes "d");
  requirements = [];
  types = [];
  constants = [];
  predicates = [];
  tasks = [];
  methods = [];
  actions = [];
}

-- `(define (problem x) (:domain d) (:htn))`
abbrev pub empty_problem : ProblemText
empty_problem = record {
  name = called 17 (codes "x");
  domain = called 29 (codes "d");
  requirements = [];
  objects = [];
  init = [];
  goal = [];
  htn = record { place = 32; parameters = []; network = no_network };
}

-- a place in the domain's text
abbrev pub in_domain : ℕ → At
in_domain place = record { source = source.Domain; place = place }

-- a place in the problem's text
abbrev pub in_problem : ℕ → At
in_problem place = record { source = source.Problem; place = place }

-- ## Faults

-- `(define (domain d) (:predicates (p) (P)))`
abbrev pub two_predicates : DomainText
two_predicates = record empty_domain { predicates = predicate (called 33 (codes "p")) [] ∷ predicate (called 37 (codes "P")) [] ∷ [] }

-- `(define (domain d) (:predicates (p ?x - t)))`
abbrev pub no_type : DomainText
no_type = record empty_domain { predicates = predicate (called 33 (codes "p")) (typed_as (variable 35 (codes "?x")) (called 40 (codes "t"))) ∷ [] }

-- `(define (domain d) (:types a - b b - a))`
abbrev pub two_types : DomainText
two_types = record empty_domain {
  types =
      record { names = called 27 (codes "a") ∷ []; of_type = Some (called 31 (codes "b")) }
      ∷ record { names = called 33 (codes "b") ∷ []; of_type = Some (called 37 (codes "a")) } ∷ [];
}

-- `(define (domain d) (:action a :precondition (p)))`
abbrev pub no_predicate : DomainText
no_predicate = record empty_domain { actions = action (called 28 (codes "a")) [] (atom (at_terms (called 45 (codes "p")) []) ∷ []) ∷ [] }

-- `(define (domain d) (:predicates (p ?x)) (:action a :precondition (p)))`
abbrev pub no_argument : DomainText
no_argument = record empty_domain {
  predicates = predicate (called 33 (codes "p")) (untyped (variable 35 (codes "?x"))) ∷ [];
  actions = action (called 49 (codes "a")) [] (atom (at_terms (called 66 (codes "p")) []) ∷ []) ∷ [];
}

-- `(define (domain d) (:types box can) (:constants c - can) (:predicates (p ?b - box)) (:action a :precondition (p
-- c)))`
abbrev pub no_box : DomainText
no_box = record empty_domain {
  types = record { names = called 27 (codes "box") ∷ called 31 (codes "can") ∷ []; of_type = None } ∷ [];
  constants = record { names = called 48 (codes "c") ∷ []; of_type = Some (called 52 (codes "can")) } ∷ [];
  predicates = predicate (called 71 (codes "p")) (typed_as (variable 73 (codes "?b")) (called 78 (codes "box"))) ∷ [];
  actions = action (called 93 (codes "a")) [] (atom (at_terms (called 110 (codes "p")) (term.Object (called 112 (codes "c")) ∷ [])) ∷ []) ∷ [];
}

-- a subtask without terms, with a label
abbrev pub labelled : Name → Name → SubtaskText
labelled label task = record { label = Some label; task = at_terms task [] }

-- `(define (problem x) (:domain d) (:htn :ordered-subtasks (and (s1 (x)) (s2 (y))) :ordering (< s2 s1)))`
abbrev pub two_ways : NetworkText
two_ways = record {
  is_ordered = true;
  subtasks = labelled (called 62 (codes "s1")) (called 66 (codes "x")) ∷ labelled (called 71 (codes "s2")) (called 75 (codes "y")) ∷ [];
  orderings = record { before = called 93 (codes "s2"); after = called 96 (codes "s1") } ∷ [];
  constraints = [];
}

-- the same with `(< S2 s3)`
abbrev pub no_subtask : NetworkText
no_subtask = record two_ways { orderings = record { before = called 93 (codes "S2"); after = called 96 (codes "s3") } ∷ [] }

-- the empty problem with this initial network
abbrev pub problem_of : NetworkText → ProblemText
problem_of network = record empty_problem { htn = record { place = 32; parameters = []; network = network } }

-- a predicate with one place too many
abbrev pub many_places : DomainText
many_places = record empty_domain { predicates = predicate (called 33 (codes "p")) (record { variables = replicate 33 (variable 35 (codes "?x")); of_type = None } ∷ []) ∷ [] }

-- each kind of fault holds at a place of a small pair
pub record FaultsHavePlaces : Type 0 where
  pub duplicate : FailsAt two_predicates empty_problem (fault.Duplicate (in_domain 37))
  pub unknown_type : FailsAt no_type empty_problem (fault.UnknownType (in_domain 40))
  pub type_cycle : FailsAt two_types empty_problem (fault.TypeCycle (in_domain 27))
  pub unknown_name : FailsAt no_predicate empty_problem (fault.UnknownName (in_domain 45))
  pub arity : FailsAt no_argument empty_problem (fault.Arity (in_domain 66))
  pub type_clash : FailsAt no_box empty_problem (fault.TypeClash (in_domain 112))
  pub order_cycle : FailsAt empty_domain (problem_of two_ways) (fault.OrderCycle (in_problem 32))
  pub unknown_subtask : FailsAt empty_domain (problem_of no_subtask) (fault.UnknownSubtask (in_problem 96))
  pub too_many : FailsAt many_places empty_problem (fault.TooMany (in_domain 35))

-- `(define (domain d) (:types object - object object - a))`
abbrev pub object_above_itself : DomainText
object_above_itself = record empty_domain {
  types =
      record { names = called 27 (codes "object") ∷ []; of_type = Some (called 36 (codes "object")) }
      ∷ record { names = called 43 (codes "object") ∷ []; of_type = Some (called 52 (codes "a")) } ∷ [];
}

-- `(define (domain d) (:types c - a a - b b - a))`
abbrev pub below_a_cycle : DomainText
below_a_cycle = record empty_domain {
  types =
      record { names = called 27 (codes "c") ∷ []; of_type = Some (called 31 (codes "a")) }
      ∷ record { names = called 33 (codes "a") ∷ []; of_type = Some (called 37 (codes "b")) }
      ∷ record { names = called 39 (codes "b") ∷ []; of_type = Some (called 43 (codes "a")) } ∷ [];
}

-- `(define (domain d) (:predicates (p ?x)))`
abbrev pub one_place : DomainText
one_place = record empty_domain { predicates = predicate (called 33 (codes "p")) (untyped (variable 35 (codes "?x"))) ∷ [] }

-- `(define (problem x) (:domain d) (:objects o - u) (:init (p o)) (:htn))`
abbrev pub of_no_type : ProblemText
of_no_type = record empty_problem {
  objects = record { names = called 42 (codes "o") ∷ []; of_type = Some (called 46 (codes "u")) } ∷ [];
  init = at_terms (called 57 (codes "p")) (term.Object (called 59 (codes "o")) ∷ []) ∷ [];
}

-- a cycle needs a way back other than `object - object`, and a clash needs two declared types
pub record FaultsHaveReasons : Type 0 where
  -- `object` below itself is ignored, and `object` below another type is on a cycle, with both names
  pub ignored : FailsAt object_above_itself empty_problem (fault.TypeCycle (in_domain 27)) → ⊥
  pub child : FailsAt object_above_itself empty_problem (fault.TypeCycle (in_domain 43))
  pub parent : FailsAt object_above_itself empty_problem (fault.TypeCycle (in_domain 52))
  -- a type of the cycle, but where it is the parent of one that is only below the cycle
  pub below : FailsAt below_a_cycle empty_problem (fault.TypeCycle (in_domain 31)) → ⊥
  -- a type that isn't declared clashes with none
  pub undeclared : FailsAt one_place of_no_type (fault.TypeClash (in_problem 59)) → ⊥

-- ## Meanings

-- `(forall (?c - CAN) (p ?c ?B))` where `?a` and `?b` are in force
abbrev pub quantified : Condition
quantified =
    for_all (typed_as (variable 0 (codes "?c")) (called 0 (codes "CAN")))
    (atom (at_terms (called 0 (codes "p")) (term.Variable (variable 0 (codes "?c")) ∷ term.Variable (variable 0 (codes "?B")) ∷ [])) ∷ [])

-- what small conditions, networks and types mean
pub record TreesHaveMeanings : Type 0 where
  -- `object` first, then each type where it is first named
  pub types : type_names two_types ≡ codes "object" ∷ codes "a" ∷ codes "b" ∷ []
  -- the order of the list, and then the written one
  pub pairs : order_pairs two_ways ≡ (0, 1) ∷ (1, 0) ∷ []
  -- the variable of the `forall` has the number after those around it
  pub numbers : formula_of (vocabulary_of no_box empty_problem) quantified (codes "?a" ∷ codes "?b" ∷ [])
      ≡ model.for_all (2 ∷ [])
      (model.formula (model.literal true (record { predicate = 0; arguments = model.parameter 2 ∷ model.parameter 1 ∷ [] })) model.no_formulas)

-- ## A pair that fits together, and its task

-- `?b - box`
abbrev pub box : ℕ → List VariableGroup
box place = typed_as (variable place (codes "?b")) (called (place + 5) (codes "box"))

-- a name at the variable `?b`
abbrev pub of_box : ℕ → List ℕ → AtomText
of_box place name = at_terms (called place name) (term.Variable (variable (place + length name + 1) (codes "?b")) ∷ [])

-- `(define (domain d) (:types box) (:predicates (done ?b - box)) (:task pack :parameters (?b - box)) (:method m
-- :parameters (?b - box) :task (pack ?b) :ordered-subtasks (mark ?b)) (:action mark :parameters (?b - box) :effect
-- (done ?b)))`
abbrev pub packing : DomainText
packing = record empty_domain {
  types = record { names = called 27 (codes "box") ∷ []; of_type = None } ∷ [];
  predicates = predicate (called 46 (codes "done")) (box 51) ∷ [];
  tasks = record { name = called 69 (codes "pack"); parameters = box 87 } ∷ [];
  methods = record {
    place = 98;
    name = called 107 (codes "m");
    parameters = box 122;
    task = of_box 139 (codes "pack");
    precondition = [];
    network = record no_network { subtasks = record { label = None; task = of_box 167 (codes "mark") } ∷ [] };
  } ∷ [];
  actions = record {
    name = called 186 (codes "mark");
    parameters = box 204;
    precondition = [];
    effect = record { is_positive = true; atom = of_box 223 (codes "done") } ∷ [];
  } ∷ [];
}

-- `(define (problem x) (:domain d) (:objects B1 - box) (:htn :ordered-subtasks (pack b1)))`
abbrev pub one_box : ProblemText
one_box = record empty_problem {
  objects = record { names = called 42 (codes "B1") ∷ []; of_type = Some (called 47 (codes "box")) } ∷ [];
  htn = record {
    place = 52;
    parameters = [];
    network = record no_network {
      subtasks = record { label = None; task = at_terms (called 77 (codes "pack")) (term.Object (called 82 (codes "b1")) ∷ []) } ∷ [];
    };
  };
}

-- numbers: of types `object`, which isn't named, is 0 and `box` 1; of tasks `pack` is 0 and `mark` 1
abbrev pub packing_task : Task
packing_task = record {
  objects = codes "b1" ∷ [];
  types = record { name = codes "object"; objects = [] } ∷ record { name = codes "box"; objects = 0 ∷ [] } ∷ [];
  predicates = record { name = codes "done"; types = 1 ∷ [] } ∷ [];
  tasks = record { name = codes "pack"; types = 1 ∷ [] } ∷ [];
  methods = record {
    name = codes "m";
    parameters = 1 ∷ [];
    task = record { name = 0; arguments = model.parameter 0 ∷ [] };
    precondition = [];
    constraints = [];
    network = record { subtasks = record { name = 1; arguments = model.parameter 0 ∷ [] } ∷ []; order = (false ∷ []) ∷ [] };
  } ∷ [];
  actions = record {
    name = codes "mark";
    parameters = 1 ∷ [];
    precondition = [];
    deletes = [];
    adds = record { predicate = 0; arguments = model.parameter 0 ∷ [] } ∷ [];
  } ∷ [];
  initial_network = record {
    parameters = [];
    constraints = [];
    network = record { subtasks = record { name = 0; arguments = model.object 0 ∷ [] } ∷ []; order = (false ∷ []) ∷ [] };
  };
  initial_atoms = set_of [];
  goal = [];
}

-- the pair of packing fits together, and its task is the one written out
pub record PackingIsATask : Type 0 where
  pub fits : IsWellTypedPair packing one_box
  pub task : IsTaskOf packing one_box packing_task
