-- Bytes before a place on its line.
use Rattle.std.specs.Prelude.{◌≡◌, ℕ, ◌-◌, ◌<◌, ◌≤◌, Bool, true, ◌||◌, List, slice_index, ⊤}
use Rattle.diagnostics.specs.Places.{column_of}
use Rattle.hddl_words.specs.declared.fault.TextFault.{TextFault}
use Rattle.hddl_words.specs.declared.fault.TextFault.TheVariants.{NotAscii, BadWord}
use Rattle.hddl_words.specs.Words.{is_blank, is_printable}

-- blanks and visible characters of ASCII are one byte, one character and one UTF-16 unit each
abbrev pub is_one_unit : ℕ → Bool
is_one_unit b = is_blank b || is_printable b

-- each byte before the place on its line is such a one
abbrev pub ColumnsAgree : List ℕ → ℕ → Type 0
ColumnsAgree text place = (q : ℕ) → place - column_of text place ≤ q → q < place → is_one_unit (slice_index text q) ≡ true

-- at the place of a fault of the words, but for a text that is too long
abbrev pub AgreesAt : List ℕ → TextFault → Type 0
AgreesAt text (NotAscii place) = ColumnsAgree text place
AgreesAt text (BadWord place) = ColumnsAgree text place
AgreesAt text _ = ⊤
