-- The code of a fault's diagnostic, and the place that it is about.
use Rattle.std.specs.Prelude.{◌≡◌, ℕ, min, List, drop, length, Option, Some, None, codes}
use Rattle.std.specs.List.{take_while}
use Rattle.hddl_words.specs.Word.{is_word_byte}
use Rattle.hddl_meaning.specs.declared.fault.At.{At}
use Rattle.hddl_meaning.specs.declared.fault.CheckFault.{CheckFault}
use Rattle.hddl_meaning.specs.declared.fault.CheckFault.TheVariants as fault
use Rattle.hddl_meaning.specs.declared.fault.Source.{Source as Side}
use Rattle.hddl_meaning.specs.declared.fault.Source.TheVariants as side
use Rattle.diagnostics.specs.declared.diagnostic.Source.{Source}
use Rattle.diagnostics.specs.declared.diagnostic.Spot.{Spot}
use Rattle.diagnostics.specs.declared.diagnostic.Where.{Where}
use Rattle.diagnostics.specs.declared.diagnostic.Where.TheVariants.{Text, Place}
use Rattle.pair_messages.specs.declared.texts.PairTexts.{PairTexts}

-- the name of a fault
abbrev pub code_of : CheckFault → List ℕ
code_of (fault.Duplicate at) = codes "Duplicate"
code_of (fault.UnknownType at) = codes "UnknownType"
code_of (fault.TypeCycle at) = codes "TypeCycle"
code_of (fault.UnknownName at) = codes "UnknownName"
code_of (fault.Arity at) = codes "Arity"
code_of (fault.TypeClash at) = codes "TypeClash"
code_of (fault.OrderCycle at) = codes "OrderCycle"
code_of (fault.UnknownSubtask at) = codes "UnknownSubtask"
code_of (fault.TooMany at) = codes "TooMany"
code_of fault.OutOfMemory = codes "OutOfMemory"

-- the place of a fault, unless memory was refused
abbrev pub at_of : CheckFault → Option At
at_of (fault.Duplicate at) = Some at
at_of (fault.UnknownType at) = Some at
at_of (fault.TypeCycle at) = Some at
at_of (fault.UnknownName at) = Some at
at_of (fault.Arity at) = Some at
at_of (fault.TypeClash at) = Some at
at_of (fault.OrderCycle at) = Some at
at_of (fault.UnknownSubtask at) = Some at
at_of (fault.TooMany at) = Some at
at_of fault.OutOfMemory = None

-- the problem's text, or the domain's where there is no problem
abbrev pub problem_text : PairTexts → Source
problem_text texts = elim texts.problem [ None ↦ texts.domain.now | Some problem ↦ problem.now ]

-- the text of a side
abbrev pub text_of : PairTexts → Side → Source
text_of texts side.Domain = texts.domain.now
text_of texts side.Problem = problem_text texts

-- a word of the text that begins at the place, or the text's end where the text is shorter
abbrev pub IsSpotAt : Source → ℕ → Spot → Type 0
IsSpotAt text place spot = (spot.source.now ≡ text) × (spot.place ≡ min place (length text.lines))

-- the place of a fault, or the domain as a whole where the fault has none
abbrev pub IsAbout : PairTexts → Option At → Where → Type 0
IsAbout texts None (Text source) = source.now ≡ texts.domain.now
IsAbout texts None (Place spot) = ⊥
IsAbout texts (Some at) (Text source) = ⊥
IsAbout texts (Some at) (Place spot) = IsSpotAt (text_of texts at.source) at.place spot

-- the word that begins at a place of a text: none at a bracket, a blank or the end
abbrev pub word_from : Source → ℕ → List ℕ
word_from source place = take_while is_word_byte (drop place source.lines)
