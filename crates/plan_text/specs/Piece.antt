-- Texts cut into lines, and lines into words.
use Rattle.std.specs.Prelude.{ℕ, ◌+◌, Bool, true, false, ◌&&◌, ◌||◌, ◌==◌, nat_le, if◌then◌else◌, List, [], ◌∷◌}
use Rattle.std.specs.List.{filter}
use Rattle.htn_model.specs.PlanWord.{is_blank}

-- the most bytes of a text
abbrev pub max_bytes : ℕ
max_bytes = 16777216

-- a part of a text, with the place of its first byte in the text, counted from 0
pub record Piece : Type 0 where
  pub place : ℕ
  pub bytes : List ℕ

-- these bytes at that place
abbrev pub piece : ℕ → List ℕ → Piece
piece place bytes = record { place = place; bytes = bytes }

-- the first of the pieces with one more byte, which stands at the place
abbrev pub with_front : ℕ → ℕ → List Piece → List Piece
with_front place b [] = piece place (b ∷ []) ∷ []
with_front place b (p ∷ ps) = piece place (b ∷ p.bytes) ∷ ps

-- The pieces of the bytes from a place on, cut at each byte that passes the test and without these bytes: one piece
-- more than there are such bytes.
abbrev pub pieces : (ℕ → Bool) → ℕ → List ℕ → List Piece
pieces is_cut place [] = piece place [] ∷ []
pieces is_cut place (b ∷ bytes) =
    if is_cut b then piece place [] ∷ pieces is_cut (place + 1) bytes
    else with_front place b (pieces is_cut (place + 1) bytes)

-- whether a byte ends a line
abbrev pub is_line_feed : ℕ → Bool
is_line_feed b = b == 10

-- the lines of a text: a line feed ends a line, and so does the end of the text
abbrev pub lines : List ℕ → List Piece
lines text = pieces is_line_feed 0 text

-- whether there is a byte
abbrev pub is_filled_by : List ℕ → Bool
is_filled_by [] = false
is_filled_by (b ∷ bytes) = true

-- whether a piece has a byte
abbrev pub is_filled : Piece → Bool
is_filled p = is_filled_by p.bytes

-- the words at a place: the longest runs of bytes that are no blanks
abbrev pub words_at : ℕ → List ℕ → List Piece
words_at place bytes = filter is_filled (pieces is_blank place bytes)

-- the words of a line
abbrev pub words : Piece → List Piece
words line = words_at line.place line.bytes
