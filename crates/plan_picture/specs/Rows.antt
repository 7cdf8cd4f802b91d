-- The rows of a forest, from the top down.
use Rattle.std.specs.Prelude.{ℕ, zero, suc, ◌+◌, Bool, true, false, nat_lt, if◌then◌else◌, List, [], ◌∷◌, ◌++◌, length, Option, Some, None}
use Rattle.std.specs.List.{flat_map}

-- A line in the forest: its number, its parent's, the number of lines above it, and whether it is the last of its
-- siblings; and, for as many of the lines above it as have bars, from the top, whether each is the last of its
-- siblings.
pub record Row : Type 0 where
  pub line : ℕ
  pub parent : Option ℕ
  pub depth : ℕ
  pub above : List Bool
  pub is_last : Bool

-- the most bars of a row
abbrev pub max_bars : ℕ
max_bars = 40

-- for the lines above a row's children, whether each is the last of its siblings
abbrev pub with_bar : List Bool → Bool → List Bool
with_bar above is_last = if nat_lt (length above) max_bars then above ++ is_last ∷ [] else above

-- whether a list is at its end
abbrev pub is_end : List ℕ → Bool
is_end [] = true
is_end (line ∷ lines) = false

-- the rows of siblings, of which the one without a successor is the last
abbrev pub siblings : Option ℕ → ℕ → List Bool → List ℕ → List Row
siblings parent depth above [] = []
siblings parent depth above (line ∷ lines) =
    record { line = line; parent = parent; depth = depth; above = above; is_last = is_end lines } ∷ siblings parent depth above lines

-- the rows of the roots
abbrev pub root_rows : List ℕ → List Row
root_rows roots = siblings None 0 [] roots

-- the rows of a line's children
abbrev pub child_rows : (ℕ → List ℕ) → Row → List Row
child_rows children row = siblings (Some row.line) (row.depth + 1) (with_bar row.above row.is_last) (children row.line)

-- Some rows, and all rows from the top down: after each of these come the rows of its children, and what comes after
-- each of them, before the next.
pub data ArePreorder (children : ℕ → List ℕ) : (rows all : List Row) → Type 0 where
  none : ArePreorder children [] []
  next : (row : Row) (rows below after : List Row) → ArePreorder children (child_rows children row) below → ArePreorder children rows after
      → ArePreorder children (row ∷ rows) (row ∷ (below ++ after))

-- the rows from the top down, to a depth below the given ones
abbrev pub rows_within : (ℕ → List ℕ) → ℕ → List Row → List Row
rows_within children zero rows = []
rows_within children (suc deep) rows = flat_map (λ row. row ∷ rows_within children deep (child_rows children row)) rows
