-- The words that a plan file can hold as names.
use Rattle.std.specs.Prelude.{◌≡◌, ◌≢◌, ℕ, ◌<◌, Bool, true, not, ◌&&◌, ◌||◌, ◌==◌, nat_le, List, length, codes}
use Rattle.std.specs.List.{list_all}
use Rattle.std.specs.Char.{is_ascii_uppercase}

-- a byte that separates the words of a line: tab, form feed, carriage return, space and round brackets
abbrev pub is_blank : ℕ → Bool
is_blank b = b == 9 || b == 12 || b == 13 || b == 32 || b == 40 || b == 41

-- whether a byte is one of ASCII's visible characters
abbrev pub is_printable : ℕ → Bool
is_printable b = nat_le 33 b && nat_le b 126

-- a byte of a name: printable, no round bracket, no upper case letter
abbrev pub is_name_byte : ℕ → Bool
is_name_byte b = is_printable b && not (is_blank b) && not (is_ascii_uppercase b)

-- the word that separates a task from its method
abbrev pub arrow : List ℕ
arrow = codes "->"

-- a word that a line can hold as a name, an argument or a method
pub record IsName (w : List ℕ) : Type 0 where
  pub filled : 0 < length w
  pub bytes : list_all is_name_byte w ≡ true
  pub other : w ≢ arrow
