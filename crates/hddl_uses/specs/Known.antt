-- The conditions under which it is known whether an argument fits its place.
use Rattle.std.specs.Prelude.{◌≤◌, ℕ, List, length}
use Rattle.hddl_words.specs.declared.term.Term.{Term}
use Rattle.hddl_words.specs.declared.term.Term.TheVariants as term
use Rattle.hddl_words.specs.declared.domain.DomainText.{DomainText}
use Rattle.hddl_words.specs.declared.problem.ProblemText.{ProblemText}
use Rattle.hddl_meaning.specs.Mentions.{Typed, IsIn}
use Rattle.hddl_meaning.specs.Names.{object_names}
use Rattle.hddl_meaning.specs.Types.{text_or_object}
use Rattle.hddl_meaning.specs.Uses.{Variable}
use Rattle.hddl_meaning.specs.Items.{IsClash, IsDeclaredType}
use Rattle.hddl_names.specs.Members.{AreTyped}

-- each constant and object has declared types, and there are few enough to be numbered
pub record AreKnown (d : DomainText) (p : ProblemText) : Type 0 where
  pub typed : AreTyped d p
  pub few : length (object_names d p) ≤ 65536

-- the type of a parameter or a variable is declared
abbrev pub IsTyped : DomainText → Typed → Type 0
IsTyped d t = IsDeclaredType d (text_or_object t.of_type)

-- each of the typed names has a declared type
abbrev pub AllTyped : DomainText → List Typed → Type 0
AllTyped d typed = (t : Typed) → IsIn t typed → IsTyped d t

-- the types of a constant or object are known where those of all are
abbrev pub IsKnown : DomainText → ProblemText → Term → Type 0
IsKnown d p (term.Variable x) = Unit {0}
IsKnown d p (term.Object x) = ∥ AreKnown d p ∥₁

-- a clash of an argument whose type is known
pub record IsKnownClash (d : DomainText) (p : ProblemText) (variables : List Variable) (argument : Term) (at_place : Typed) (place : ℕ) : Type 0 where
  pub clash : IsClash d p variables argument at_place place
  pub known : IsKnown d p argument
