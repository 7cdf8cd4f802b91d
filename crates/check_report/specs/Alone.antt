-- Faults that a domain has by itself.
use Rattle.std.specs.Prelude.{◌≡◌, ◌≢◌, ◌↔◌, ℕ, suc, Bool, true, false, ◌&&◌, not, List, Option, Some, None, Ok, codes, nat_eq, slice_get}
use Rattle.std.specs.List.{list_any}
use Rattle.hddl_words.specs.Words.{Word, words}
use Rattle.hddl_words.specs.declared.token.Kind.TheVariants as kind
use Rattle.hddl_words.specs.declared.domain.DomainText.{DomainText}
use Rattle.hddl_words.specs.declared.problem.ProblemText.{ProblemText}
use Rattle.hddl_meaning.specs.Items.{FailsAt}
use Rattle.hddl_meaning.specs.declared.fault.At.{At}
use Rattle.hddl_meaning.specs.declared.fault.Source.{Source}
use Rattle.hddl_meaning.specs.declared.fault.Source.TheVariants as source
use Rattle.hddl_meaning.specs.declared.fault.CheckFault.{CheckFault}
use Rattle.hddl_meaning.specs.declared.fault.CheckFault.TheVariants as fault
use Rattle.pair_messages.specs.Heads.{at_of}

-- the bytes of a text
abbrev pub Text : Type 0
Text = List ℕ

-- the text of a problem that declares nothing
abbrev pub no_problem : Text
no_problem = codes "(define (problem none) (:domain none) (:htn))"

-- a name at a place, which isn't the first word in its brackets
pub record StandsInside (ws : List Word) (place : ℕ) : Type 0 where
  pub before : ℕ
  pub word_before : Word
  pub name : Word
  pub is_before : slice_get ws before ≡ Some word_before
  pub is_name : slice_get ws (suc before) ≡ Some name
  pub inside : word_before.kind ≢ kind.Open
  pub named : name.kind ≡ kind.Name
  pub here : name.place ≡ place

-- the place of an argument that is a name
abbrev pub IsArgument : Text → ℕ → Type 0
IsArgument text place = (ws : List Word) × (words text ≡ Ok ws) × StandsInside ws place

-- the fault is of an object of the domain that isn't declared, and that a problem may declare
abbrev pub IsOpenObject : Text → CheckFault → Type 0
IsOpenObject text (fault.UnknownName at) = (at.source ≡ source.Domain) × IsArgument text at.place
IsOpenObject text _ = ⊥

-- the fault is in the domain
abbrev pub IsInDomain : CheckFault → Type 0
IsInDomain f = (at : At) × (at_of f ≡ Some at) × (at.source ≡ source.Domain)

-- a fault of the domain beside a problem that declares nothing, and that isn't of an object that a problem may declare
abbrev pub IsOwnFault : Text → DomainText → ProblemText → CheckFault → Type 0
IsOwnFault text d e f = FailsAt d e f × IsInDomain f × (IsOpenObject text f → ⊥)

-- ---- what the code computes

-- these are exactly the places of names that aren't the first words in their brackets
abbrev pub ArePlaces : List Word → List ℕ → Type 0
ArePlaces ws places = (place : ℕ) → (list_any (nat_eq place) places ≡ true) ↔ StandsInside ws place

-- these are exactly the places of arguments
abbrev pub AreArguments : Text → List ℕ → Type 0
AreArguments text places = (place : ℕ) → (list_any (nat_eq place) places ≡ true) ↔ IsArgument text place

-- whether a side is the domain
abbrev pub is_of_domain : Source → Bool
is_of_domain source.Domain = true
is_of_domain source.Problem = false

-- whether a place is in the domain
abbrev pub stands_in_domain : Option At → Bool
stands_in_domain None = false
stands_in_domain (Some at) = is_of_domain at.source

-- whether a fault is of an object of the domain that isn't declared, by the places of arguments
abbrev pub is_open_object : List ℕ → CheckFault → Bool
is_open_object places (fault.UnknownName at) = is_of_domain at.source && list_any (nat_eq at.place) places
is_open_object places _ = false

-- whether a fault is one of the domain and not of an object that a problem may declare, by the places of arguments
abbrev pub is_own : List ℕ → CheckFault → Bool
is_own places f = stands_in_domain (at_of f) && not (is_open_object places f)
