-- All faults of a pair, those that aren't looked for, the first, and the one that is named.
use Rattle.std.specs.Prelude.{◌≡◌, ◌⊎◌, true, List}
use Rattle.hddl_words.specs.Names.{Name}
use Rattle.hddl_words.specs.declared.domain.DomainText.{DomainText}
use Rattle.hddl_words.specs.declared.problem.ProblemText.{ProblemText}
use Rattle.hddl_words.specs.declared.term.Term.TheVariants as term
use Rattle.hddl_meaning.specs.Mentions.{IsIn, Mention, Typed}
use Rattle.hddl_meaning.specs.Items.{FailsAt, IsClash, groups}
use Rattle.hddl_meaning.specs.Uses.{Variable}
use Rattle.hddl_meaning.specs.declared.fault.At.{At}
use Rattle.hddl_meaning.specs.declared.fault.CheckFault.{CheckFault}
use Rattle.hddl_meaning.specs.declared.fault.CheckFault.TheVariants as fault
use Rattle.hddl_scope.specs.Ranks.{comes_before}
use Rattle.hddl_scope.specs.Repeats.{IsOvertaken}
use Rattle.hddl_uses.specs.Known.{AreKnown}
use Rattle.hddl_check.specs.Cycles.{IsCycleFault}
use Rattle.hddl_check.specs.TextParts.{PartFails}

-- a declaration of a type lies on a cycle, or a part of one of the texts fails
abbrev pub PairFails : DomainText → ProblemText → CheckFault → Type 0
PairFails d p f = IsCycleFault d f ⊎ PartFails d p f

-- two names that must differ, after a third one of the same text whose place is past both
abbrev pub IsOvertakenName : DomainText → ProblemText → CheckFault → Type 0
IsOvertakenName d p f = (at : At) × (group : List Mention) × (f ≡ fault.Duplicate at) × IsIn group (groups d p at.source) × IsOvertaken group at.place

-- a constant or object that clashes, where one of them has a type that isn't declared, or there are more than 65,536
abbrev pub IsUntypedClash : DomainText → ProblemText → CheckFault → Type 0
IsUntypedClash d p f =
    (at : At) × (variables : List Variable) × (x : Name) × (place : Typed) × (f ≡ fault.TypeClash at) × IsClash d p variables (term.Object x) place at.place
    × (AreKnown d p → ⊥)

-- the faults that aren't looked for
abbrev pub IsLeftOut : DomainText → ProblemText → CheckFault → Type 0
IsLeftOut d p f = IsOvertakenName d p f ⊎ IsUntypedClash d p f

-- no fault comes before it in the texts, but for those that aren't looked for
abbrev pub IsFirst : DomainText → ProblemText → CheckFault → Type 0
IsFirst d p f = (g : CheckFault) → FailsAt d p g → comes_before g f ≡ true → IsLeftOut d p g

-- The fault for which a pair is refused: of those that are looked for, the one before which none comes. Of names that
-- must differ each that isn't the first of its text is looked for, at the later of its place and that of the first.
abbrev pub IsNamed : DomainText → ProblemText → CheckFault → Type 0
IsNamed d p f = PairFails d p f × ((g : CheckFault) → PairFails d p g → comes_before g f ≡ true → ⊥)
