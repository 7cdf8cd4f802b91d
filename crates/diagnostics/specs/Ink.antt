-- The parts of an output, and its bytes with and without colour.
use Rattle.std.specs.Prelude.{ℕ, Bool, if◌then◌else◌, List, [], ◌∷◌, ◌++◌, map, codes}
use Rattle.std.specs.List.{flat_map}
use Rattle.diagnostics.specs.Shown.{shown}
use Rattle.diagnostics.specs.declared.ink.Style.{Style}
use Rattle.diagnostics.specs.declared.ink.Style.TheVariants as style

-- the beginning and the end of a style, words, the name of a file, or the end of a line
pub data Ink : Type 0 where
  begin : Style → Ink
  end : Ink
  words : List ℕ → Ink
  file : List ℕ → Ink
  feed : Ink

-- the escape sequence that begins a style
abbrev pub sequence : Style → List ℕ
sequence style.Bold = 27 ∷ codes "[1m"
sequence style.Dim = 27 ∷ codes "[2m"
sequence style.Error = 27 ∷ codes "[1;31m"
sequence style.Good = 27 ∷ codes "[1;32m"
sequence style.Warning = 27 ∷ codes "[1;33m"
sequence style.Note = 27 ∷ codes "[1;36m"
sequence style.Rule = 27 ∷ codes "[34m"

-- the one that ends it
abbrev pub reset : List ℕ
reset = 27 ∷ codes "[0m"

-- The bytes: styles only where there is colour, each byte of words as it is shown, names of files as they are.
abbrev pub ink_bytes : Bool → Ink → List ℕ
ink_bytes colour (begin s) = if colour then sequence s else []
ink_bytes colour end = if colour then reset else []
ink_bytes colour (words bytes) = map shown bytes
ink_bytes colour (file name) = name
ink_bytes colour feed = 10 ∷ []

-- the bytes of one after another
abbrev pub written : Bool → List Ink → List ℕ
written colour inks = flat_map (ink_bytes colour) inks

-- ---- one of each

abbrev pub opened : Style → List Ink
opened s = begin s ∷ []

abbrev pub closed : List Ink
closed = end ∷ []

abbrev pub said : List ℕ → List Ink
said bytes = words bytes ∷ []

abbrev pub named : List ℕ → List Ink
named name = file name ∷ []

abbrev pub ended : List Ink
ended = feed ∷ []

-- words in a style
abbrev pub styled : Style → List ℕ → List Ink
styled s bytes = opened s ++ said bytes ++ closed
