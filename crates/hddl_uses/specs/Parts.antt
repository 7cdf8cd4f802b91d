-- The conditions of a pair, part by part, and how each part fails.
use Rattle.std.specs.Prelude.{◌≡◌, ◌⊎◌, ℕ, List, [], ◌∷◌, ◌++◌, map, length, Some}
use Rattle.std.specs.List.{flat_map, zip}
use Rattle.hddl_words.specs.declared.term.Term.{Term}
use Rattle.hddl_words.specs.declared.term.NameGroup.{NameGroup}
use Rattle.hddl_words.specs.declared.term.VariableGroup.{VariableGroup}
use Rattle.hddl_words.specs.declared.condition.Condition.{Condition}
use Rattle.hddl_words.specs.declared.network.NetworkText.{NetworkText}
use Rattle.hddl_words.specs.declared.domain.DomainText.{DomainText}
use Rattle.hddl_words.specs.declared.problem.ProblemText.{ProblemText}
use Rattle.hddl_words.specs.Names.{Name}
use Rattle.htn_order.specs.Closure.{Precedes}
use Rattle.hddl_meaning.specs.Mentions.{Text, Mention, Typed, IsIn, mentions_of, texts, typed_names, typed_variables}
use Rattle.hddl_meaning.specs.Names.{type_mentions, object_names, predicate_names, compound_names, task_names}
use Rattle.hddl_meaning.specs.Networks.{order_pairs}
use Rattle.hddl_meaning.specs.Uses.{Variable, Use, TermUse, Quantifier, atoms_in, quantifiers_in, sides_in}
use Rattle.hddl_meaning.specs.Items as items
use Rattle.hddl_meaning.specs.Items.{Signature, type_of, variable_mentions, label_mentions, subtask_mentions, ordering_names}
use Rattle.hddl_meaning.specs.declared.fault.Source.{Source}
use Rattle.hddl_meaning.specs.declared.fault.CheckFault.{CheckFault}
use Rattle.hddl_meaning.specs.declared.fault.CheckFault.TheVariants as fault
use Rattle.hddl_scope.specs.Findings.{Faulted}
use Rattle.hddl_uses.specs.Known.{IsKnownClash}
use Rattle.hddl_scope.specs.Repeats.{IsRepeatOfFirst}

-- one part of a pair with a condition on it
pub data Part : Type 0 where
  -- names that must differ
  Different : List Mention → Part
  -- no more mentions than the limit
  Limited : ℕ → List Mention → Part
  -- a type that is named
  TypeName : Mention → Part
  -- an atom of a predicate, the task of a method, and a subtask
  Atom : Use → Part
  Decomposed : Use → Part
  Subtask : Use → Part
  -- a side of an equality
  Side : TermUse → Part
  -- a network, with the place of its method or of `:htn`
  Network : ℕ → NetworkText → Part
  -- all that `:types` names, and all constants or objects of the text
  Types : Part
  Objects : Part

-- ## Failures

-- a mentioned type that isn't declared, at its place
abbrev pub IsUndeclaredType : DomainText → Mention → ℕ → Type 0
IsUndeclaredType d m place = (items.IsDeclaredType d m.text → ⊥) × (place ≡ m.place)

-- a use has another number of arguments than its declaration, at the place of its name
abbrev pub IsWrongCount : List Signature → Use → ℕ → Type 0
IsWrongCount signatures u place =
    (s : Signature) × (items.declaration_in signatures u.atom.name ≡ Some s) × (length u.atom.terms ≡ length s.places → ⊥) × (place ≡ u.atom.name.place)

-- an argument clashes with the place that it takes, and its type is known
abbrev pub ClashesAt : DomainText → ProblemText → List Variable → Term × Typed → ℕ → Type 0
ClashesAt d p variables a place = IsKnownClash d p variables a.0 a.1 place

-- an argument fails at its place of a declaration: it is unknown, or clashes with the type of the place
abbrev pub ArgumentFailsIn : DomainText → ProblemText → Source → List Variable → Term × Typed → CheckFault → Type 0
ArgumentFailsIn d p text variables a f =
    Faulted fault.UnknownName text (items.IsUnknownTerm (object_names d p) (record { variables = variables; term = a.0 })) f
    ⊎ Faulted fault.TypeClash text (ClashesAt d p variables a) f

-- an argument of a use is no variable in force and no object, at its place
abbrev pub HasUnknownArgument : DomainText → ProblemText → Use → ℕ → Type 0
HasUnknownArgument d p u place = (t : TermUse) × IsIn t (items.arguments_of u) × items.IsUnknownTerm (object_names d p) t place

-- an argument of a use clashes with the declared type of its place
abbrev pub HasClash : DomainText → ProblemText → List Signature → Use → ℕ → Type 0
HasClash d p signatures u place =
    (s : Signature) × (argument : Term) × (at_place : Typed) × (items.declaration_in signatures u.atom.name ≡ Some s)
    × IsIn (argument, at_place) (zip u.atom.terms s.places) × IsKnownClash d p u.variables argument at_place place

-- a use fails: its name is not among the names, one of its arguments is unknown, or its arguments do not fit its
-- declaration by their number or by their types
abbrev pub UseFails : DomainText → ProblemText → Source → List Text → List Signature → Use → CheckFault → Type 0
UseFails d p text names signatures u f =
    Faulted fault.UnknownName text (items.IsMissing names u.atom.name) f
    ⊎ Faulted fault.UnknownName text (HasUnknownArgument d p u) f
    ⊎ Faulted fault.Arity text (IsWrongCount signatures u) f
    ⊎ Faulted fault.TypeClash text (HasClash d p signatures u) f

-- some subtask of a network leads to itself by the orderings, at the place of the network
abbrev pub IsCyclic : ℕ → NetworkText → ℕ → Type 0
IsCyclic at n place = (a : ℕ) × Precedes (order_pairs n) a a × (place ≡ at)

-- a name in an ordering is that of no subtask, at its place
abbrev pub HasUnknownLabel : NetworkText → ℕ → Type 0
HasUnknownLabel n place = (name : Name) × IsIn name (ordering_names n) × items.IsMissing (texts (label_mentions n)) name place

-- a part fails in its text with a fault: the fault's kind is the part's, and its place is one that the part allows
abbrev pub FailsIn : DomainText → ProblemText → Source → Part → CheckFault → Type 0
FailsIn d p text (Different mentions) f = Faulted fault.Duplicate text (IsRepeatOfFirst mentions) f
FailsIn d p text (Limited limit mentions) f = Faulted fault.TooMany text (items.IsPast limit mentions) f
FailsIn d p text (TypeName m) f = Faulted fault.UnknownType text (IsUndeclaredType d m) f
FailsIn d p text (Atom u) f = UseFails d p text (predicate_names d) (items.predicate_signatures d) u f
FailsIn d p text (Decomposed u) f = UseFails d p text (compound_names d) (items.task_signatures d) u f
FailsIn d p text (Subtask u) f = UseFails d p text (task_names d) (items.task_signatures d) u f
FailsIn d p text (Side t) f = Faulted fault.UnknownName text (items.IsUnknownTerm (object_names d p) t) f
FailsIn d p text (Network place n) f = Faulted fault.OrderCycle text (IsCyclic place n) f ⊎ Faulted fault.UnknownSubtask text (HasUnknownLabel n) f
FailsIn d p text Types f = Faulted fault.TooMany text (items.IsPastDistinct items.most_declarations (type_mentions d)) f
FailsIn d p text Objects f = Faulted fault.TooMany text (λ place. items.IsPastObjects d p (record { source = text; place = place })) f

-- ## Parts

-- the types that a list names
abbrev pub type_parts : List Typed → List Part
type_parts typed = map TypeName (flat_map type_of typed)

-- the type that one group of a typed list names
abbrev pub variable_group_parts : VariableGroup → List Part
variable_group_parts g = type_parts (typed_variables (g ∷ []))

-- the parts of a group of a typed list: the type that it names
abbrev pub name_group_parts : NameGroup → List Part
name_group_parts g = type_parts (typed_names (g ∷ []))

-- the parts of a `forall`: its variables differ from those around it, are few enough, and have declared types
abbrev pub quantifier_parts : Quantifier → List Part
quantifier_parts q =
    let own = mentions_of (typed_variables q.own) in
    let all = variable_mentions q.around ++ own in
    Different all ∷ Limited items.most_parameters own ∷ Limited items.most_variables all ∷ type_parts (typed_variables q.own)

-- what conditions use and declare
abbrev pub conditions_parts : List Variable → List Condition → List Part
conditions_parts variables cs =
    map Atom (atoms_in variables cs) ++ (flat_map quantifier_parts (quantifiers_in variables cs) ++ map Side (sides_in variables cs))

-- the parts of a network apart from its uses: labels that differ, subtasks that are few enough, and orderings
abbrev pub network_parts : ℕ → NetworkText → List Part
network_parts place n = Different (label_mentions n) ∷ Limited items.most_subtasks (subtask_mentions n) ∷ Network place n ∷ []
