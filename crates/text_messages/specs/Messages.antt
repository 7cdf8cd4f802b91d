-- Diagnostics of faults of texts.
use Rattle.std.specs.Prelude.{◌≡◌, ℕ, List, codes}
use Rattle.hddl_words.specs.declared.fault.TextFault.{TextFault}
use Rattle.hddl_words.specs.declared.fault.TextFault.TheVariants.{NotAscii, BadWord, Unclosed, ExtraClose, TooDeep, Expected, Unsupported, TooLong, OutOfMemory}
use Rattle.diagnostics.specs.declared.diagnostic.Source.{Source}
use Rattle.diagnostics.specs.declared.diagnostic.Where.{Where}
use Rattle.diagnostics.specs.declared.diagnostic.Where.TheVariants.{Text, Place}
use Rattle.text_messages.specs.Spots.{IsAt}

-- the name of a fault
abbrev pub code_of : TextFault → List ℕ
code_of (NotAscii place) = codes "NotAscii"
code_of (BadWord place) = codes "BadWord"
code_of (Unclosed place) = codes "Unclosed"
code_of (ExtraClose place) = codes "ExtraClose"
code_of (TooDeep place) = codes "TooDeep"
code_of (Expected place) = codes "Expected"
code_of (Unsupported place) = codes "Unsupported"
code_of (TooLong place) = codes "TooLong"
code_of OutOfMemory = codes "OutOfMemory"

-- the word at a place of a text
abbrev pub IsPlace : Source → ℕ → Where → Type 0
IsPlace source place (Place spot) = IsAt source place spot
IsPlace source place (Text other) = ⊥

-- a text as a whole
abbrev pub IsText : Source → Where → Type 0
IsText source (Text other) = other.now ≡ source
IsText source (Place spot) = ⊥

-- what a fault is about: the word at its place, or the text as a whole where that is too long
abbrev pub IsAbout : Source → TextFault → Where → Type 0
IsAbout source (NotAscii place) = IsPlace source place
IsAbout source (BadWord place) = IsPlace source place
IsAbout source (Unclosed place) = IsPlace source place
IsAbout source (ExtraClose place) = IsPlace source place
IsAbout source (TooDeep place) = IsPlace source place
IsAbout source (Expected place) = IsPlace source place
IsAbout source (Unsupported place) = IsPlace source place
IsAbout source (TooLong place) = IsText source
IsAbout source OutOfMemory = IsText source
