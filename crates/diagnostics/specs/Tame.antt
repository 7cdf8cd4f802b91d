-- Outputs that command no terminal, and outputs without their colour.
use Rattle.std.specs.Prelude.{◌≡◌, ℕ, Bool, true, false, ◌||◌, ◌&&◌, ◌==◌, nat_le, if◌then◌else◌, List, [], ◌∷◌, ◌++◌}
use Rattle.std.specs.List.{AllPass}
use Rattle.diagnostics.specs.declared.ink.Style.{Style}
use Rattle.diagnostics.specs.Ink.{Ink, begin, end, words, file, feed, sequence, reset}

-- a tab, a line feed or printable ASCII
abbrev pub is_tame : ℕ → Bool
is_tame b = b == 9 || b == 10 || (nat_le 32 b && nat_le b 126)

-- bytes that are tame, and between them, where there is colour, the sequences of the styles and the one that ends them
pub data IsTame (colour : Bool) : List ℕ → Type 0 where
  none : IsTame colour []
  byte : {b : ℕ} {bytes : List ℕ} → is_tame b ≡ true → IsTame colour bytes → IsTame colour (b ∷ bytes)
  begins : (s : Style) {bytes : List ℕ} → colour ≡ true → IsTame colour bytes → IsTame colour (sequence s ++ bytes)
  ends : {bytes : List ℕ} → colour ≡ true → IsTame colour bytes → IsTame colour (reset ++ bytes)

-- The bytes without escape sequences, each of which extends from an escape to the next `m`. The flag says whether one
-- is open.
abbrev pub plain : Bool → List ℕ → List ℕ
plain inside [] = []
plain true (b ∷ bytes) = if b == 109 then plain false bytes else plain true bytes
plain false (b ∷ bytes) = if b == 27 then plain true bytes else b ∷ plain false bytes

-- the names of files among these are tame
abbrev pub HasTameNames : List Ink → Type 0
HasTameNames [] = Unit {0}
HasTameNames (begin s ∷ inks) = HasTameNames inks
HasTameNames (end ∷ inks) = HasTameNames inks
HasTameNames (words bytes ∷ inks) = HasTameNames inks
HasTameNames (file name ∷ inks) = AllPass is_tame name × HasTameNames inks
HasTameNames (feed ∷ inks) = HasTameNames inks
