-- The numbers by which a picture is laid out. From left to right come the problem, the tasks in columns by how many lines
-- they are below, and all actions in one last column. From the top down come the places of the lines without children.
use Rattle.std.specs.Prelude.{◌≡◌, ℕ, ◌+◌, ◌*◌, ◌/◌, ◌<◌, ◌&&◌, Bool, not, nat_lt, nat_eq, max, if◌then◌else◌, List, [], ◌∷◌, length, get_or}
use Rattle.plan_text.specs.Forest.{lists_of}
use Rattle.plan_text.specs.Reached.{children_at}
use Rattle.plan_picture.specs.declared.picture.Picture.{Picture}
use Rattle.plan_picture.specs.Rows.{Row}
use Rattle.plan_picture.specs.Seen.{seen_all}
use Rattle.picture_text.specs.declared.caption.Caption.{Caption}
use Rattle.picture_svg.specs.Widths.{width_at, problem_width}

-- ## Columns

-- whether a row is a task in a column
abbrev pub is_in_column : ℕ → ℕ → Row → Bool
is_in_column actions column row = not (nat_lt row.line actions) && nat_eq row.depth column

-- the width of the widest box in a column, 0 for none
abbrev pub widest : ℕ → (ℕ → ℕ) → ℕ → List Row → ℕ
widest actions width column [] = 0
widest actions width column (row ∷ rows) =
    if is_in_column actions column row then max (width row.line) (widest actions width column rows) else widest actions width column rows

-- how many columns of tasks there are
abbrev pub column_count : ℕ → List Row → ℕ
column_count actions [] = 0
column_count actions (row ∷ rows) = if nat_lt row.line actions then column_count actions rows else max (row.depth + 1) (column_count actions rows)

-- ## Places

-- how many places a line with these children has for itself: one where there are none
abbrev pub own_places : List ℕ → ℕ
own_places [] = 1
own_places (child ∷ children) = 0

-- how many places rows have
abbrev pub place_count : (ℕ → List ℕ) → List Row → ℕ
place_count children [] = 0
place_count children (row ∷ rows) = own_places (children row.line) + place_count children rows

-- The middle of a line with these children: without any it is that of its place, where a place has 38 units, and else it
-- lies between the middles of the first child and the last.
abbrev pub middle_of : (ℕ → ℕ) → ℕ → List ℕ → ℕ
middle_of middle place [] = 31 + 38 * place
middle_of middle place (first ∷ others) = (middle first + middle (get_or (first ∷ others) (length others) 0)) / 2

-- the middles of the lines of rows are right, where the first row begins at a place
abbrev pub AreCentred : (ℕ → List ℕ) → (ℕ → ℕ) → ℕ → List Row → Type 0
AreCentred children middle place [] = Unit {0}
AreCentred children middle place (row ∷ rows) =
    (middle row.line ≡ middle_of middle place (children row.line)) × AreCentred children middle (place + own_places (children row.line)) rows

-- ## All of it

-- how many lines are actions, how wide the box of each line is, where each column begins, where that of the actions does,
-- and how far from the top the middle of each line's box is
pub record Grid : Type 0 where
  pub actions : ℕ
  pub width : ℕ → ℕ
  pub left : ℕ → ℕ
  pub last : ℕ
  pub middle : ℕ → ℕ

-- the rows of a picture
abbrev pub rows_of : Picture → List Row
rows_of picture = seen_all picture.rows.items

-- how many of its lines are actions
abbrev pub actions_of : Picture → ℕ
actions_of picture = length picture.file.now.actions

-- the children of its lines
abbrev pub children_of : Picture → ℕ → List ℕ
children_of picture = children_at (actions_of picture) (lists_of picture.children.items)

-- The grid of a picture. The first column begins 34 units after the box of the problem, which begins at 16, and each
-- column 34 units after the widest box of the one before.
pub record IsGridOf (caption : Caption) (picture : Picture) (grid : Grid) : Type 0 where
  pub actions : grid.actions ≡ actions_of picture
  pub widths : (line : ℕ) → grid.width line ≡ width_at picture.file.now line
  pub first_column : grid.left 0 ≡ 16 + problem_width caption + 34
  pub next_column : (column : ℕ) → column < column_count grid.actions (rows_of picture)
      → grid.left (column + 1) ≡ grid.left column + widest grid.actions grid.width column (rows_of picture) + 34
  pub last_column : grid.last ≡ grid.left (column_count grid.actions (rows_of picture))
  pub centred : AreCentred (children_of picture) grid.middle 0 (rows_of picture)
