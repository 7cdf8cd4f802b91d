-- The names that are offered for one that isn't declared.
use Rattle.std.specs.Prelude.{◌≡◌, ◌⊎◌, ℕ, false, true, List, [], ◌∷◌, ◌++◌, map, filter_map, slice_get, Option, Some, None}
use Rattle.std.specs.List.{All, flat_map}
use Rattle.hddl_words.specs.Names.{Name}
use Rattle.hddl_words.specs.declared.term.Term.{Term}
use Rattle.hddl_words.specs.declared.term.Term.TheVariants as term
use Rattle.hddl_words.specs.declared.domain.DomainText.{DomainText}
use Rattle.hddl_words.specs.declared.network.NetworkText.{NetworkText}
use Rattle.hddl_words.specs.declared.problem.ProblemText.{ProblemText}
use Rattle.hddl_meaning.specs.Mentions.{IsIn, Text, folded, texts}
use Rattle.hddl_meaning.specs.Names.{compound_names, object_names, predicate_names, task_names, type_names}
use Rattle.hddl_meaning.specs.Uses.{Schema, TermUse, Use, Variable}
use Rattle.hddl_meaning.specs.Items.{label_mentions, networks_in, ordering_names, schemas_in, terms_in}
use Rattle.hddl_meaning.specs.declared.fault.At.{At}
use Rattle.hddl_meaning.specs.declared.fault.CheckFault.{CheckFault}
use Rattle.hddl_meaning.specs.declared.fault.CheckFault.TheVariants as fault
use Rattle.diagnostics.specs.Near.{distance_of, is_nearer, may_be_meant, nearest_of}
use Rattle.diagnostics.specs.Offers.{offered}
use Rattle.diagnostics.specs.declared.diagnostic.Remark.{Remark}
use Rattle.pair_messages.specs.declared.stands.Kind.{Kind}
use Rattle.pair_messages.specs.declared.stands.Kind.TheVariants as kind
use Rattle.pair_messages.specs.declared.texts.PairTexts.{PairTexts}
use Rattle.pair_messages.specs.Heads.{text_of, word_from}
use Rattle.pair_messages.specs.declared.stands.Stand.{Stand}
use Rattle.pair_messages.specs.declared.stands.Stand.TheVariants as stand
use Rattle.hddl_locate.specs.Places.{term_place}
use Rattle.pair_messages.specs.Stands.{in_force, uses_of_kind}

-- ## Names that may be offered

-- one of the nearest of some names in lower case: it is one of them and may be meant, and none that may be is nearer
pub record IsNearest (word : List ℕ) (names : List Text) (name : List ℕ) : Type 0 where
  pub declared : IsIn (folded name) names
  pub meant : may_be_meant word name ≡ true
  pub none_nearer : (other : Text) → IsIn other names → is_nearer word (distance_of word name) other ≡ false

-- what a domain declares of a kind: predicates, compound tasks, or compound tasks and actions
abbrev pub declared_of_kind : DomainText → Kind → List Text
declared_of_kind d kind.Predicate = predicate_names d
declared_of_kind d kind.Compound = compound_names d
declared_of_kind d kind.Task = task_names d

-- for the name of a use at the place: a nearest one of those that are declared of its kind
abbrev pub IsForUse : DomainText → ProblemText → At → List ℕ → Type 0
IsForUse d p at name =
    (s : Schema) × (kind : Kind) × (u : Use) × IsIn s (schemas_in d p at.source) × IsIn u (uses_of_kind kind s) × (u.atom.name.place ≡ at.place)
    × IsNearest u.atom.name.text (declared_of_kind d kind) name

-- the texts of variables in force
abbrev pub variable_texts : List Variable → List Text
variable_texts variables = map (λ v. v.typed.mention.text) variables

-- the variable in force that has the word after its `?`
abbrev pub IsVariableOf : List Variable → List ℕ → List ℕ → Type 0
IsVariableOf variables word name = IsIn (folded name) (variable_texts variables) × (folded name ≡ 63 ∷ folded word)

-- for an object: a nearest one of those that are declared, or the variable of that name
abbrev pub MayBeObject : DomainText → ProblemText → List Variable → List ℕ → List ℕ → Type 0
MayBeObject d p variables word name = IsNearest word (object_names d p) name ⊎ IsVariableOf variables word name

-- for a term: a nearest variable in force, or what may be an object
abbrev pub IsForTermUse : DomainText → ProblemText → TermUse → List ℕ → Type 0
IsForTermUse d p u name = by u.term
  where
    by : Term → Type 0
    by (term.Variable x) = IsNearest x.text (variable_texts u.variables) name
    by (term.Object x) = MayBeObject d p u.variables x.text name

-- for an argument or a side at the place
abbrev pub IsForTerm : DomainText → ProblemText → At → List ℕ → Type 0
IsForTerm d p at name =
    (s : Schema) × (u : TermUse) × IsIn s (schemas_in d p at.source) × IsIn u (terms_in s) × (term_place u.term ≡ at.place) × IsForTermUse d p u name

-- for a name in an ordering of a network at the place: a nearest label of it
abbrev pub IsForOrdering : NetworkText → ℕ → List ℕ → Type 0
IsForOrdering n place name =
    (x : Name) × IsIn x (ordering_names n) × (x.place ≡ place) × IsNearest x.text (texts (label_mentions n)) name

-- the name may be meant for a label in one of the networks of a text
abbrev pub IsForLabel : DomainText → ProblemText → At → List ℕ → Type 0
IsForLabel d p at name = (n : ℕ × NetworkText) × IsIn n (networks_in d p at.source) × IsForOrdering n.1 at.place name

-- the names that may be offered for a fault; for a fault of another kind there are none
abbrev pub MayBeMeant : PairTexts → CheckFault → List ℕ → Type 0
MayBeMeant t (fault.UnknownType at) name = IsNearest (word_from (text_of t at.source) at.place) (type_names t.domain_tree.now) name
MayBeMeant t (fault.UnknownName at) name = IsForUse t.domain_tree.now t.problem_tree.now at name ⊎ IsForTerm t.domain_tree.now t.problem_tree.now at name
MayBeMeant t (fault.UnknownSubtask at) name = IsForLabel t.domain_tree.now t.problem_tree.now at name
MayBeMeant t (fault.Duplicate at) name = ⊥
MayBeMeant t (fault.TypeCycle at) name = ⊥
MayBeMeant t (fault.Arity at) name = ⊥
MayBeMeant t (fault.TypeClash at) name = ⊥
MayBeMeant t (fault.OrderCycle at) name = ⊥
MayBeMeant t (fault.TooMany at) name = ⊥
MayBeMeant t fault.OutOfMemory name = ⊥

-- each offered name is one that may be meant
abbrev pub OffersMeant : PairTexts → CheckFault → List Remark → Type 0
OffersMeant t f remarks = All (MayBeMeant t f) (offered remarks)

-- ---- what the code computes

-- each is one of the nearest of some names, however it is written
abbrev pub AreNearest : List ℕ → List Text → List Text → Type 0
AreNearest word names near = All (λ text. (name : List ℕ) → folded name ≡ text → IsNearest word names name) near

-- each is one of some texts in lower case
abbrev pub AreWritten : List Text → List (List ℕ) → Type 0
AreWritten these names = All (λ name. IsIn (folded name) these) names

-- for what stands at a place
abbrev pub IsForStand : DomainText → ProblemText → Stand → List ℕ → Type 0
IsForStand d p (stand.Name u) name = IsNearest u.atom.now.name.text (declared_of_kind d u.kind) name
IsForStand d p (stand.Argument u position) name =
    (t : Term) × (slice_get u.atom.now.terms position ≡ Some t) × IsForTermUse d p (record { variables = in_force u.scope; term = t }) name
IsForStand d p (stand.Side scope t) name = IsForTermUse d p (record { variables = in_force scope; term = t.now }) name

-- the nearest of some names, as `nearest_of` numbers them
abbrev pub nearest_in : List ℕ → List (List ℕ) → List (List ℕ)
nearest_in word names = filter_map (slice_get names) (nearest_of word names)

-- what a domain declares of a kind, as it is written
abbrev pub names_of_kind : DomainText → Kind → List (List ℕ)
names_of_kind d kind.Predicate = map (λ x. x.name.text) d.predicates
names_of_kind d kind.Compound = map (λ x. x.name.text) d.tasks
names_of_kind d kind.Task = map (λ x. x.name.text) d.tasks ++ map (λ x. x.name.text) d.actions

-- a label, if there is one
abbrev pub label_text : Option Name → List (List ℕ)
label_text None = []
label_text (Some label) = label.text ∷ []

-- the labels of the subtasks of a network
abbrev pub label_texts : NetworkText → List (List ℕ)
label_texts n = flat_map (λ s. label_text s.label) n.subtasks
