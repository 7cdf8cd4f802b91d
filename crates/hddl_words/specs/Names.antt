-- Names and variables.
use Rattle.std.specs.Prelude.{ℕ, Bool, false, not, ◌&&◌, ◌||◌, ◌==◌, nat_lt, List, [], ◌∷◌, length, codes}
use Rattle.std.specs.List.{list_all}
use Rattle.std.specs.Str.{str_eq_ignore_ascii_case}
use Rattle.hddl_words.specs.Word.{Word, is_word_byte}
use Rattle.hddl_words.specs.Class.{is_left_out}

-- `?`, `:`, `-`, `=` and `<` begin words of other kinds
abbrev pub is_mark : ℕ → Bool
is_mark b = b == 63 || b == 58 || b == 45 || b == 61 || b == 60

-- whether a name is reserved for the grammar or left out of the language
abbrev pub is_reserved_text : List ℕ → Bool
is_reserved_text text =
    str_eq_ignore_ascii_case text (codes "and") || str_eq_ignore_ascii_case text (codes "not") || str_eq_ignore_ascii_case text (codes "forall") || is_left_out text

-- printable bytes other than brackets and `;`, of which the first is no mark, and no reserved word
abbrev pub is_name : List ℕ → Bool
is_name [] = false
is_name (b ∷ bytes) = list_all is_word_byte (b ∷ bytes) && not (is_mark b) && not (is_reserved_text (b ∷ bytes))

-- printable bytes other than brackets and `;`, of which the first is `?` and not the only one
abbrev pub is_variable : List ℕ → Bool
is_variable [] = false
is_variable (b ∷ bytes) = list_all is_word_byte (b ∷ bytes) && b == 63 && nat_lt 1 (length (b ∷ bytes))

-- a name with the place of its first byte
pub record Name : Type 0 where
  pub place : ℕ
  pub text : List ℕ

-- a variable with the place of its first byte
pub record Variable : Type 0 where
  pub place : ℕ
  pub text : List ℕ

-- a word as a name
abbrev pub name_of : Word → Name
name_of w = record { place = w.place; text = w.text }

-- a word as a variable
abbrev pub variable_of : Word → Variable
variable_of w = record { place = w.place; text = w.text }
