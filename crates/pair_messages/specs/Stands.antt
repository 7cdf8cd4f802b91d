-- The item at a place of a text: the name of a use, an argument of one, or a side of an equality.
use Rattle.std.specs.Prelude.{◌≡◌, ℕ, List, [], ◌∷◌, ◌++◌, slice_get, Some}
use Rattle.std.specs.List.{flat_map}
use Rattle.hddl_words.specs.declared.term.Term.{Term}
use Rattle.hddl_words.specs.declared.term.VariableGroup.{VariableGroup}
use Rattle.hddl_words.specs.declared.condition.Condition.{Condition}
use Rattle.hddl_words.specs.declared.condition.EqualityText.{EqualityText}
use Rattle.hddl_words.specs.declared.network.NetworkText.{NetworkText}
use Rattle.hddl_words.specs.declared.domain.DomainText.{DomainText}
use Rattle.hddl_words.specs.declared.problem.ProblemText.{ProblemText}
use Rattle.hddl_locate.specs.Places.{term_place}
use Rattle.hddl_meaning.specs.Mentions.{IsIn}
use Rattle.hddl_meaning.specs.Uses as uses
use Rattle.hddl_meaning.specs.Uses.{Schema, TermUse, Variable, atoms_in, constraints_in, domain_schemas, parameters_of, problem_schemas, quantified_of, sides, sides_in, subtasks_in}
use Rattle.hddl_meaning.specs.Items.{networks_in, schemas_in}
use Rattle.hddl_meaning.specs.declared.fault.At.{At}
use Rattle.hddl_meaning.specs.declared.fault.Source.{Source}
use Rattle.hddl_meaning.specs.declared.fault.Source.TheVariants as source
use Rattle.pair_messages.specs.declared.phrases.Section.{Section}
use Rattle.pair_messages.specs.declared.phrases.Section.TheVariants.{Method, Action, Htn, States}
use Rattle.pair_messages.specs.declared.stands.InForce.{InForce}
use Rattle.pair_messages.specs.declared.stands.Kind.{Kind}
use Rattle.pair_messages.specs.declared.stands.Kind.TheVariants as kind
use Rattle.pair_messages.specs.declared.stands.Stand.{Stand}
use Rattle.pair_messages.specs.declared.stands.Stand.TheVariants as stand
use Rattle.pair_messages.specs.declared.stands.Use.{Use}

-- the parameters of a method, an action or the initial network
abbrev pub section_parameters : Section → List VariableGroup
section_parameters (Method m) = m.now.parameters
section_parameters (Action a) = a.now.parameters
section_parameters (Htn h) = h.now.parameters
section_parameters States = []

-- the parameters of a section, and then the variables of each `forall`
abbrev pub in_force : InForce → List Variable
in_force scope = parameters_of (section_parameters scope.section) ++ flat_map (λ g. quantified_of g.now) scope.quantified.items

-- a use with the variables in force
abbrev pub use_of : Use → uses.Use
use_of u = record { variables = in_force u.scope; atom = u.atom.now }

-- the uses of a kind in a schema
abbrev pub uses_of_kind : Kind → Schema → List uses.Use
uses_of_kind kind.Predicate s = s.atoms
uses_of_kind kind.Compound s = s.decomposed
uses_of_kind kind.Task s = s.subtasks

-- the item at a place of a schema
abbrev pub StandsIn : Schema → ℕ → Stand → Type 0
StandsIn s place (stand.Name u) = IsIn (use_of u) (uses_of_kind u.kind s) × (u.atom.now.name.place ≡ place)
StandsIn s place (stand.Argument u position) =
    IsIn (use_of u) (uses_of_kind u.kind s) × ((t : Term) → slice_get u.atom.now.terms position ≡ Some t → term_place t ≡ place)
StandsIn s place (stand.Side scope t) = IsIn (record { variables = in_force scope; term = t.now }) s.sides × (term_place t.now ≡ place)

-- the item at a place of a pair
abbrev pub StandsAt : DomainText → ProblemText → At → Stand → Type 0
StandsAt d p at found = (s : Schema) × IsIn s (schemas_in d p at.source) × StandsIn s at.place found

-- ---- parts of schemas

-- what one of them uses, the other uses too
pub record IsPartOf (s whole : Schema) : Type 0 where
  pub each_use : (k : Kind) (u : uses.Use) → IsIn u (uses_of_kind k s) → IsIn u (uses_of_kind k whole)
  pub each_side : (t : TermUse) → IsIn t s.sides → IsIn t whole.sides

-- what an atom says by itself
abbrev pub schema_of_atom : Kind → uses.Use → Schema
schema_of_atom kind.Predicate u = record { parameters = []; atoms = u ∷ []; decomposed = []; subtasks = []; sides = []; quantifiers = [] }
schema_of_atom kind.Compound u = record { parameters = []; atoms = []; decomposed = u ∷ []; subtasks = []; sides = []; quantifiers = [] }
schema_of_atom kind.Task u = record { parameters = []; atoms = []; decomposed = []; subtasks = u ∷ []; sides = []; quantifiers = [] }

-- what an equality says by itself
abbrev pub schema_of_equality : List Variable → EqualityText → Schema
schema_of_equality variables e = record { parameters = []; atoms = []; decomposed = []; subtasks = []; sides = sides variables e; quantifiers = [] }

-- what conditions say by themselves
abbrev pub schema_of_conditions : List Variable → List Condition → Schema
schema_of_conditions variables conditions =
    record {
      parameters = [];
      atoms = atoms_in variables conditions;
      decomposed = [];
      subtasks = [];
      sides = sides_in variables conditions;
      quantifiers = [];
    }

-- what a network says by itself
abbrev pub schema_of_subtasks : List Variable → NetworkText → Schema
schema_of_subtasks variables n =
    record {
      parameters = [];
      atoms = [];
      decomposed = [];
      subtasks = subtasks_in variables n;
      sides = constraints_in variables n;
      quantifiers = [];
    }

-- the item at a place of a domain
abbrev pub StandsInDomain : DomainText → ℕ → Stand → Type 0
StandsInDomain d place found = (s : Schema) × IsIn s (domain_schemas d) × StandsIn s place found

-- the item at a place of a problem
abbrev pub StandsInProblem : ProblemText → ℕ → Stand → Type 0
StandsInProblem p place found = (s : Schema) × IsIn s (problem_schemas p) × StandsIn s place found

-- a section of a text that has parameters
abbrev pub IsSectionOf : DomainText → ProblemText → Source → Section → Type 0
IsSectionOf d p source.Domain (Method m) = IsIn m.now d.methods
IsSectionOf d p source.Domain (Action a) = IsIn a.now d.actions
IsSectionOf d p source.Problem (Htn h) = h.now ≡ p.htn
IsSectionOf d p text _ = ⊥

-- the network of a section
abbrev pub IsNetworkOf : Section → NetworkText → Type 0
IsNetworkOf (Method m) n = n ≡ m.now.network
IsNetworkOf (Htn h) n = n ≡ h.now.network
IsNetworkOf _ n = ⊥

-- one of the networks of a text
abbrev pub IsNetworkIn : DomainText → ProblemText → Source → NetworkText → Type 0
IsNetworkIn d p text n = (place : ℕ) × IsIn (place, n) (networks_in d p text)
