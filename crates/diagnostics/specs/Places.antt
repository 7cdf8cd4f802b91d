-- Lines and columns of the places of a text.
use Rattle.std.specs.Prelude.{ℕ, zero, suc, ◌+◌, ◌-◌, Bool, true, not, ◌&&◌, ◌||◌, ◌==◌, if◌then◌else◌, List, [], ◌∷◌, length, take, drop, count_by, slice_index}
use Rattle.std.specs.List.{suffix_len}
use Rattle.diagnostics.specs.declared.position.Position.{Position}

-- whether a byte ends a line
abbrev pub is_line_feed : ℕ → Bool
is_line_feed b = b == 10

-- whether a byte is part of a line
abbrev pub is_in_line : ℕ → Bool
is_in_line b = not (is_line_feed b)

-- the number of bytes of a place's line before it: those since the last line feed
abbrev pub column_of : List ℕ → ℕ → ℕ
column_of text place = suffix_len is_in_line (take place text)

-- one more than the line feeds before the place, and one more than the bytes since the last of them
abbrev pub position : List ℕ → ℕ → Position
position text place = record { line = 1 + count_by is_line_feed (take place text); column = 1 + column_of text place }

-- the place at which the line of a place begins
abbrev pub line_start : List ℕ → ℕ → ℕ
line_start text place = place - column_of text place

-- whether a line ends before these bytes: with the text, at its line feed, or at a carriage return before that
abbrev pub is_line_end : List ℕ → Bool
is_line_end [] = true
is_line_end (b ∷ []) = is_line_feed b
is_line_end (b ∷ c ∷ bytes) = is_line_feed b || (b == 13 && is_line_feed c)

-- the bytes up to the end of their line
abbrev pub line_of : List ℕ → List ℕ
line_of [] = []
line_of (b ∷ bytes) = if is_line_end (b ∷ bytes) then [] else b ∷ line_of bytes

-- ---- what the code computes

-- the places of the line feeds, where the first byte stands at a place
abbrev pub feeds_from : ℕ → List ℕ → List ℕ
feeds_from place [] = []
feeds_from place (b ∷ bytes) = if is_line_feed b then place ∷ feeds_from (place + 1) bytes else feeds_from (place + 1) bytes

-- where the line after the first line feeds, as many as the number says, begins
abbrev pub start_of : List ℕ → ℕ → ℕ
start_of text zero = 0
start_of text (suc feeds) = slice_index (feeds_from 0 text) feeds + 1

-- where a line that begins at a place ends
abbrev pub line_end : List ℕ → ℕ → ℕ
line_end text start = start + length (line_of (drop start text))
