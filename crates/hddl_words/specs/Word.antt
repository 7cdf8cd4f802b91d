-- What a word is: a bracket, or a longest run of other printable bytes.
use Rattle.std.specs.Prelude.{ℕ, Bool, not, ◌&&◌, ◌||◌, ◌==◌, nat_lt, nat_le, if◌then◌else◌, List, [], ◌∷◌, length, Option, Some, None, Result, Ok, Err}
use Rattle.std.specs.List.{take_while}
use Rattle.hddl_words.specs.declared.fault.TextFault.{TextFault}
use Rattle.hddl_words.specs.declared.fault.TextFault.TheVariants.{NotAscii, BadWord}
use Rattle.hddl_words.specs.declared.token.Kind.{Kind}
use Rattle.hddl_words.specs.declared.token.Kind.TheVariants.{Open, Close, Variable, Keyword, Sign, Name}

-- whether a byte is a tab, a line feed, a form feed, a carriage return or a space
abbrev pub is_blank : ℕ → Bool
is_blank b = b == 9 || b == 10 || b == 12 || b == 13 || b == 32

-- whether a byte is one of ASCII's visible characters
abbrev pub is_printable : ℕ → Bool
is_printable b = nat_le 33 b && nat_le b 126

-- a byte of a word other than a bracket
abbrev pub is_word_byte : ℕ → Bool
is_word_byte b = is_printable b && not (b == 40 || b == 41 || b == 59)

-- a comment ends at a line feed
abbrev pub is_comment_byte : ℕ → Bool
is_comment_byte b = not (b == 10)

-- a word of a text: its kind, the place of its first byte, and its bytes
pub record Word : Type 0 where
  pub kind : Kind
  pub place : ℕ
  pub text : List ℕ

-- a word from its parts
abbrev pub word : Kind → ℕ → List ℕ → Word
word kind place text = record { kind = kind; place = place; text = text }

-- the kind of a word that begins with this byte and has this many, or None for one that no text may have
abbrev pub kind_of : ℕ → ℕ → Option Kind
kind_of first len =
    if first == 63 then (if nat_lt 1 len then Some Variable else None)
    else (if first == 58 then (if nat_lt 1 len then Some Keyword else None)
    else (if first == 45 || first == 61 || first == 60 then (if nat_lt 1 len then None else Some Sign)
    else Some Name))

-- a word of a kind, or the fault of one that has none
abbrev pub kinded : ℕ → List ℕ → Option Kind → Result Word TextFault
kinded place text (Some kind) = Ok (word kind place text)
kinded place text None = Err (BadWord place)

-- The word at the front of the bytes, which begin with neither a blank nor a comment: a bracket, or the longest run
-- of other printable bytes.
abbrev pub word_at : ℕ → List ℕ → Result Word TextFault
word_at place [] = Err (NotAscii place)
word_at place (b ∷ bytes) =
    if b == 40 then Ok (word Open place (b ∷ []))
    else (if b == 41 then Ok (word Close place (b ∷ []))
    else (if is_word_byte b then (let run = take_while is_word_byte (b ∷ bytes) in kinded place run (kind_of b (length run)))
    else Err (NotAscii place)))
