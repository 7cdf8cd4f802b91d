-- Words among markup.
use Rattle.std.specs.Prelude.{◌≡◌, ℕ, Bool, true, not, ◌||◌, ◌==◌, if◌then◌else◌, List, [], ◌∷◌, ◌++◌, codes}
use Rattle.std.specs.List.{flat_map}

-- the four bytes that have names
pub data Named : Type 0 where
  less : Named
  greater : Named
  ampersand : Named
  quote : Named

-- a name as it is written
abbrev pub entity : Named → List ℕ
entity less = codes "&lt;"
entity greater = codes "&gt;"
entity ampersand = codes "&amp;"
entity quote = codes "&quot;"

-- a byte, or its name
abbrev pub escape : ℕ → List ℕ
escape b =
    if b == 60 then entity less else if b == 62 then entity greater else if b == 38 then entity ampersand else if b == 34 then entity quote else b ∷ []

-- each byte of some words so
abbrev pub escaped : List ℕ → List ℕ
escaped words = flat_map escape words

-- whether a byte means something among markup
abbrev pub is_markup : ℕ → Bool
is_markup b = b == 60 || b == 62 || b == 38 || b == 34

-- Bytes of which none is markup: bytes that mean nothing there, and names.
pub data IsText : List ℕ → Type 0 where
  none : IsText []
  byte : (b : ℕ) (bytes : List ℕ) → not (is_markup b) ≡ true → IsText bytes → IsText (b ∷ bytes)
  name : (n : Named) (bytes : List ℕ) → IsText bytes → IsText (entity n ++ bytes)
