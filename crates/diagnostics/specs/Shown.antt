-- The part of a line that is shown around a place, and the carets below it.
use Rattle.std.specs.Prelude.{◌≡◌, ℕ, ◌+◌, ◌-◌, ◌<◌, Bool, true, false, ◌&&◌, ◌||◌, ◌==◌, nat_lt, nat_le, if◌then◌else◌, List, [], ◌∷◌, ◌++◌, length, take, drop, map, min, max}
use Rattle.diagnostics.specs.declared.excerpt.Excerpt.{Excerpt as Slices}
use Rattle.diagnostics.specs.Places.{column_of, line_start, line_of, is_line_end}

-- a part of a line, before and from a place on, and whether the line has bytes before and after it
pub record Excerpt : Type 0 where
  pub is_cut_before : Bool
  pub before : List ℕ
  pub after : List ℕ
  pub is_cut_after : Bool

-- The first byte of the part that is shown of a line of this length: the part has 120 bytes, 80 of them before the
-- place, where there are as many.
abbrev pub first_shown : ℕ → ℕ → ℕ
first_shown len column = min (column - 80) (len - 120)

-- the 120 bytes from there on, parted at the place
abbrev pub excerpt_of : List ℕ → ℕ → Excerpt
excerpt_of line column =
    let first = first_shown (length line) column in
    let part = take 120 (drop first line) in
    record {
      is_cut_before = nat_lt 0 first;
      before = take (column - first) part;
      after = drop (column - first) part;
      is_cut_after = nat_lt (first + 120) (length line);
    }

-- the part that is shown of the line of a place
abbrev pub excerpt : List ℕ → ℕ → Excerpt
excerpt text place = excerpt_of (line_of (drop (line_start text place) text)) (column_of text place)

-- tabs and printable ASCII are shown as they are, every other byte as a question mark
abbrev pub shown : ℕ → ℕ
shown b = if b == 9 || (nat_le 32 b && nat_le b 126) then b else 63

-- three dots at an end that is cut
abbrev pub mark : Bool → List ℕ
mark true = 46 ∷ 46 ∷ 46 ∷ []
mark false = []

-- the part as it is shown
abbrev pub row : Excerpt → List ℕ
row e = mark e.is_cut_before ++ map shown (e.before ++ e.after) ++ mark e.is_cut_after

-- a tab below a tab, and a blank below every other byte
abbrev pub pad : ℕ → ℕ
pad b = if b == 9 then 9 else 32

-- the bytes below a row before the first caret
abbrev pub padding : Excerpt → List ℕ
padding e = map pad (mark e.is_cut_before ++ e.before)

-- How many carets stand below a word of this length: as many as the row has bytes of it, and one at least.
abbrev pub carets : Excerpt → ℕ → ℕ
carets e len = max 1 (min len (length e.after + length (mark e.is_cut_after)))

-- the padding is the front of the row with each byte but the tabs a blank; then the row goes on with bytes from the
-- place on, of which the first is among them unless the line ends before it
pub record StandsBelow (text : List ℕ) (place : ℕ) (e : Excerpt) : Type 0 where
  pub below : padding e ≡ map pad (take (length (padding e)) (row e))
  pub above : drop (length (padding e)) (row e) ≡ map shown e.after ++ mark e.is_cut_after
  pub from_place : e.after ≡ take (length e.after) (drop place text)
  pub has_first : is_line_end (drop place text) ≡ false → 0 < length e.after

-- an excerpt with its bytes
abbrev pub seen : Slices → Excerpt
seen e = record { is_cut_before = e.is_cut_before; before = e.before.now; after = e.after.now; is_cut_after = e.is_cut_after }
