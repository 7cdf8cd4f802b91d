-- Where the notes of a diagnostic stand: at the first declarations of the names that a fault has, or that are offered
-- for them.
use Rattle.std.specs.Prelude.{◌≡◌, ◌⊎◌, ℕ, ◌+◌, ◌<◌, true, List, [], ◌∷◌, ◌++◌, length, map, slice_get, Option, Some, None, option_map}
use Rattle.std.specs.Borrow.{Bor}
use Rattle.std.specs.List.{All, AllZip, find, flat_map}
use Rattle.hddl_words.specs.Names.{Name}
use Rattle.hddl_words.specs.declared.term.Term.{Term}
use Rattle.hddl_words.specs.declared.term.Term.TheVariants as term
use Rattle.hddl_words.specs.declared.term.VariableGroup.{VariableGroup}
use Rattle.hddl_words.specs.declared.network.NetworkText.{NetworkText}
use Rattle.hddl_words.specs.declared.network.OrderingText.{OrderingText}
use Rattle.hddl_words.specs.declared.domain.ActionText.{ActionText}
use Rattle.hddl_words.specs.declared.domain.DomainText.{DomainText}
use Rattle.hddl_words.specs.declared.domain.MethodText.{MethodText}
use Rattle.hddl_words.specs.declared.problem.ProblemText.{ProblemText}
use Rattle.hddl_locate.specs.Places.{term_place}
use Rattle.hddl_meaning.specs.Mentions.{IsIn, Mention, Text, folded, mention_of, mentions_of, typed_variables}
use Rattle.hddl_meaning.specs.Names.{is_same_text, type_mentions}
use Rattle.hddl_meaning.specs.Networks.{labelled}
use Rattle.hddl_meaning.specs.Items.{declaration_lists, declared_objects, label_mentions, networks_in, schemas_in, variable_mentions}
use Rattle.hddl_meaning.specs.Uses.{Schema, Use, Variable, schema_of_action, schema_of_method, schema_of_network}
use Rattle.hddl_meaning.specs.declared.fault.At.{At}
use Rattle.hddl_meaning.specs.declared.fault.CheckFault.{CheckFault}
use Rattle.hddl_meaning.specs.declared.fault.CheckFault.TheVariants as fault
use Rattle.hddl_meaning.specs.declared.fault.Source.{Source}
use Rattle.hddl_meaning.specs.declared.fault.Source.TheVariants as source
use Rattle.diagnostics.specs.declared.diagnostic.Note.{Note}
use Rattle.diagnostics.specs.declared.diagnostic.Remark.{Remark}
use Rattle.diagnostics.specs.Offers.{offered}
use Rattle.pair_messages.specs.declared.asked.Asked.{Asked}
use Rattle.pair_messages.specs.declared.firsts.Sort.{Sort}
use Rattle.pair_messages.specs.declared.firsts.Sort.TheVariants as sort
use Rattle.pair_messages.specs.declared.stands.Kind.{Kind}
use Rattle.pair_messages.specs.declared.stands.Kind.TheVariants as kind
use Rattle.pair_messages.specs.declared.stands.Stand.{Stand}
use Rattle.pair_messages.specs.declared.texts.PairTexts.{PairTexts}
use Rattle.pair_messages.specs.Heads.{IsSpotAt, text_of, word_from}
use Rattle.pair_messages.specs.Stands.{StandsIn, uses_of_kind}

-- ## First declarations

-- the place of the first of some names that has a text
abbrev pub first_place : List Mention → Text → Option ℕ
first_place names text = option_map (λ m. m.place) (find (λ m. is_same_text text m.text) names)

-- what a domain declares for uses of a kind, with parameters: predicates, or compound tasks and then actions
abbrev pub declarations_of : DomainText → Kind → List (Name × List VariableGroup)
declarations_of d kind.Predicate = map (λ x. (x.name, x.parameters)) d.predicates
declarations_of d kind.Compound = map (λ x. (x.name, x.parameters)) d.tasks ++ map (λ x. (x.name, x.parameters)) d.actions
declarations_of d kind.Task = map (λ x. (x.name, x.parameters)) d.tasks ++ map (λ x. (x.name, x.parameters)) d.actions

-- their names
abbrev pub called_mentions : DomainText → Kind → List Mention
called_mentions d k = map (λ x. mention_of x.0) (declarations_of d k)

-- the constants of the domain, or the objects of the problem
abbrev pub object_mentions : DomainText → ProblemText → Source → List Mention
object_mentions d p text = mentions_of (declared_objects d p text)

-- a place of the domain
abbrev pub IsInDomain : Option ℕ → At → Type 0
IsInDomain place note = (note.source ≡ source.Domain) × (place ≡ Some note.place)

-- the first constant of a name, or else the first object of the problem
abbrev pub IsFirstObject : DomainText → ProblemText → Text → At → Type 0
IsFirstObject d p text note = by note.source
  where
    by : Source → Type 0
    by source.Domain = first_place (object_mentions d p source.Domain) text ≡ Some note.place
    by source.Problem = (first_place (object_mentions d p source.Domain) text ≡ None) × (first_place (object_mentions d p source.Problem) text ≡ Some note.place)

-- the first declaration of a name: of a type, of an object, or of what uses of a kind name
abbrev pub IsFirst : DomainText → ProblemText → Sort → Text → At → Type 0
IsFirst d p sort.Type text note = IsInDomain (first_place (type_mentions d) text) note
IsFirst d p sort.Object text note = IsFirstObject d p text note
IsFirst d p (sort.Called k) text note = IsInDomain (first_place (called_mentions d k) text) note

-- the first declaration of a name that is offered
abbrev pub IsFirstOffered : DomainText → ProblemText → List Remark → Sort → At → Type 0
IsFirstOffered d p remarks of note = (name : List ℕ) × IsIn name (offered remarks) × IsFirst d p of (folded name) note

-- ## Names that stand twice

-- names of one kind or of one list: predicates, tasks, methods and actions; the parameters of a schema; the labels of a network
abbrev pub name_lists : DomainText → ProblemText → Source → List (List Mention)
name_lists d p text =
    declaration_lists d text ++ map (λ s. mentions_of (typed_variables s.parameters)) (schemas_in d p text) ++ map (λ n. label_mentions n.1) (networks_in d p text)

-- the first of a text in one of some lists
abbrev pub IsFirstIn : List (List Mention) → Text → ℕ → Type 0
IsFirstIn lists text place = (names : List Mention) × IsIn names lists × (first_place names text ≡ Some place)

-- the first of the name at a place
abbrev pub IsTwin : PairTexts → At → At → Type 0
IsTwin t at note =
    (note.source ≡ at.source)
    × IsFirstIn (name_lists t.domain_tree.now t.problem_tree.now at.source) (folded (word_from (text_of t at.source) at.place)) note.place

-- ## Uses

-- the use of this kind whose name is at a place
abbrev pub IsUseAt : DomainText → ProblemText → At → Kind → Use → Type 0
IsUseAt d p at k u = (s : Schema) × IsIn s (schemas_in d p at.source) × IsIn u (uses_of_kind k s) × (u.atom.name.place ≡ at.place)

-- a name that is offered for a use
abbrev pub IsOfferedUse : DomainText → ProblemText → At → List Remark → At → Type 0
IsOfferedUse d p at remarks note = (k : Kind) × (u : Use) × IsUseAt d p at k u × IsFirstOffered d p remarks (sort.Called k) note

-- what a use names
abbrev pub IsNamedThere : DomainText → ProblemText → At → At → Type 0
IsNamedThere d p at note = (k : Kind) × (u : Use) × IsUseAt d p at k u × IsFirst d p (sort.Called k) (folded u.atom.name.text) note

-- ## Arguments

-- the name of a method or an action with such a schema, or the bracket of `:htn`
abbrev pub IsNameOfSchema : DomainText → ProblemText → Source → Schema → ℕ → Type 0
IsNameOfSchema d p source.Domain s place =
    ((m : MethodText) × IsIn m d.methods × (s ≡ schema_of_method m) × (m.name.place ≡ place))
    ⊎ ((a : ActionText) × IsIn a d.actions × (s ≡ schema_of_action a) × (a.name.place ≡ place))
IsNameOfSchema d p source.Problem s place = (s ≡ schema_of_network p) × (p.htn.place ≡ place)

-- the method, the action or `:htn` around what stands at a place
abbrev pub IsSectionAround : DomainText → ProblemText → At → At → Type 0
IsSectionAround d p at note =
    (note.source ≡ at.source) × ((s : Schema) × IsNameOfSchema d p at.source s note.place × ((found : Stand) × StandsIn s at.place found))

-- what an argument is: the first variable in force of its name, or the first object
abbrev pub IsArgument : DomainText → ProblemText → Source → List Variable → Term → At → Type 0
IsArgument d p text variables (term.Variable x) note = (note.source ≡ text) × (first_place (variable_mentions variables) (folded x.text) ≡ Some note.place)
IsArgument d p text variables (term.Object x) note = IsFirstObject d p (folded x.text) note

-- the first declaration of a name, with its parameters
abbrev pub IsFirstCalled : DomainText → Kind → Text → Name × List VariableGroup → Type 0
IsFirstCalled d k text x = IsIn x (declarations_of d k) × (first_place (called_mentions d k) text ≡ Some x.0.place)

-- the parameter at a position
abbrev pub IsParameter : DomainText → Kind → Text → ℕ → At → Type 0
IsParameter d k text position note =
    (x : Name × List VariableGroup) × IsFirstCalled d k text x
    × IsInDomain (option_map (λ m. m.place) (slice_get (mentions_of (typed_variables x.1)) position)) note

-- an argument of a use, or the parameter at its position
abbrev pub IsOfArgument : DomainText → ProblemText → Source → Kind → Use → ℕ → At → Type 0
IsOfArgument d p text k u position note =
    (t : Term) × (slice_get u.atom.terms position ≡ Some t) × (IsArgument d p text u.variables t note ⊎ IsParameter d k (folded u.atom.name.text) position note)

-- those of the argument at a place
abbrev pub IsOfArgumentAt : DomainText → ProblemText → At → At → Type 0
IsOfArgumentAt d p at note =
    (s : Schema) × (k : Kind) × (u : Use) × (position : ℕ) × IsIn s (schemas_in d p at.source) × IsIn u (uses_of_kind k s)
    × ((t : Term) → slice_get u.atom.terms position ≡ Some t → term_place t ≡ at.place) × IsOfArgument d p at.source k u position note

-- ## Orders

-- a pair of the order of a network: one that a part of `:ordering` asks for, or two neighbours of an ordered list
abbrev pub IsAsked : NetworkText → Asked → Type 0
IsAsked n pair = by pair.ordering
  where
    by : Option (Bor OrderingText) → Type 0
    by None = (n.is_ordered ≡ true) × (pair.before + 1 ≡ pair.after) × (pair.after < length n.subtasks)
    by (Some o) = IsIn o.now n.orderings × (labelled n o.now.before ≡ Some pair.before) × (labelled n o.now.after ≡ Some pair.after)

-- pairs that lead from one subtask to another: each begins where the one before it ends
abbrev pub Leads : ℕ → List Asked → ℕ → Type 0
Leads first [] last = first ≡ last
Leads first (pair ∷ pairs) last = (pair.before ≡ first) × Leads pair.after pairs last

-- a cycle of the order of a network: pairs of it that lead from a subtask back to itself
abbrev pub IsCycle : NetworkText → List Asked → Type 0
IsCycle n pairs = All (IsAsked n) pairs × ((first : ℕ) × Leads first pairs first)

-- the part of `:ordering` that asks for a pair, if one does
abbrev pub ordering_of : Asked → List OrderingText
ordering_of pair = elim pair.ordering [ None ↦ [] | Some o ↦ o.now ∷ [] ]

-- a note at a part of `:ordering`
abbrev pub IsAtOrdering : PairTexts → Source → OrderingText → Note → Type 0
IsAtOrdering t text o note = IsSpotAt (text_of t text) o.before.place note.spot

-- one note after the other at the parts of `:ordering` that ask for the pairs of a cycle, in the network at a place
pub record AreOfCycle (t : PairTexts) (at : At) (notes : List Note) : Type 0 where
  pub network : NetworkText
  pub is_there : IsIn (at.place, network) (networks_in t.domain_tree.now t.problem_tree.now at.source)
  pub cycle : List Asked
  pub is_cycle : IsCycle network cycle
  pub noted : AllZip (IsAtOrdering t at.source) (flat_map ordering_of cycle) notes

-- ## Notes

-- where a note of a fault may stand, beside what is offered; the notes of a cycle are defined together
abbrev pub IsNoteOf : PairTexts → CheckFault → List Remark → At → Type 0
IsNoteOf t (fault.Duplicate at) remarks note = IsTwin t at note
IsNoteOf t (fault.UnknownType at) remarks note = IsFirstOffered t.domain_tree.now t.problem_tree.now remarks sort.Type note
IsNoteOf t (fault.UnknownName at) remarks note =
    IsOfferedUse t.domain_tree.now t.problem_tree.now at remarks note
    ⊎ (IsFirstOffered t.domain_tree.now t.problem_tree.now remarks sort.Object note ⊎ IsSectionAround t.domain_tree.now t.problem_tree.now at note)
IsNoteOf t (fault.Arity at) remarks note = IsNamedThere t.domain_tree.now t.problem_tree.now at note
IsNoteOf t (fault.TypeClash at) remarks note = IsOfArgumentAt t.domain_tree.now t.problem_tree.now at note
IsNoteOf t _ remarks note = ⊥

-- a note at such a place
abbrev pub IsNote : PairTexts → CheckFault → List Remark → Note → Type 0
IsNote t f remarks note = (at : At) × IsNoteOf t f remarks at × IsSpotAt (text_of t at.source) at.place note.spot

-- the notes of a fault: those of a cycle, or none; of any other fault each stands where one may
abbrev pub AreNotes : PairTexts → CheckFault → List Remark → List Note → Type 0
AreNotes t (fault.OrderCycle at) remarks notes = (notes ≡ []) ⊎ AreOfCycle t at notes
AreNotes t f remarks notes = All (IsNote t f remarks) notes
