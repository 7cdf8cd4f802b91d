-- The beginnings of the columns of a picture, as a list.
use Rattle.std.specs.Prelude.{◌≡◌, ℕ, ◌+◌, ◌<◌, List, [], ◌∷◌, length, get_or}
use Rattle.plan_picture.specs.Rows.{Row}
use Rattle.picture_svg.specs.Grid.{column_count, widest}

-- where columns of these widths begin, and where the last one ends
abbrev pub starts : ℕ → List ℕ → List ℕ
starts first [] = first ∷ []
starts first (wide ∷ others) = first ∷ starts (first + wide + 34) others

-- the width of the widest box of rows in each of some columns
pub record AreWidest (actions : ℕ) (width : ℕ → ℕ) (count : ℕ) (rows : List Row) (wide : List ℕ) : Type 0 where
  pub long : length wide ≡ count
  pub widest_box : (column : ℕ) → column < count → get_or wide column 0 ≡ widest actions width column rows

-- where the columns of rows begin, and at last that of the actions
pub record AreColumns (actions : ℕ) (width : ℕ → ℕ) (first : ℕ) (rows : List Row) (lefts : List ℕ) : Type 0 where
  pub count : length lefts ≡ column_count actions rows + 1
  pub first_column : get_or lefts 0 0 ≡ first
  pub next_column : (column : ℕ) → column < column_count actions rows → get_or lefts (column + 1) 0 ≡ get_or lefts column 0 + widest actions width column rows + 34
