-- Pictures that command no terminal.
use Rattle.std.specs.Prelude.{◌≡◌, ℕ, ◌||◌, ◌==◌, Bool, true, false, if◌then◌else◌, List, [], ◌∷◌}
use Rattle.std.specs.List.{list_all}
use Rattle.diagnostics.specs.Tame.{is_tame}
use Rattle.picture_text.specs.declared.as_text.Glyphs.{Glyphs}
use Rattle.picture_text.specs.declared.as_text.Glyphs.TheVariants.{Unicode, Ascii}

-- a byte of the signs `├`, `─`, `└` and `│`
abbrev pub is_of_sign : ℕ → Bool
is_of_sign b = b == 226 || b == 148 || b == 156 || b == 128 || b == 130

-- a tab, a line feed or printable ASCII; or else, where the signs are not ASCII, a byte of them
abbrev pub is_tame_in : Glyphs → ℕ → Bool
is_tame_in Ascii b = is_tame b
is_tame_in Unicode b = is_tame b || is_of_sign b

-- each of the bytes is so
abbrev pub AreTame : (ℕ → Bool) → List ℕ → Type 0
AreTame test bytes = list_all test bytes ≡ true

-- The bytes after the first quote that stands after no backslash. The flag says whether one stands before.
abbrev pub past_quote : Bool → List ℕ → List ℕ
past_quote escaped [] = []
past_quote true (b ∷ bytes) = past_quote false bytes
past_quote false (b ∷ bytes) = if b == 34 then bytes else past_quote (b == 92) bytes
