-- What folds under a row is what is below its line.
use Rattle.std.specs.Prelude.{◌≡◌, ◌≢◌, ℕ, ◌<◌, ◌≤◌, ◌⊎◌, Bool, true, false, List, [], ◌∷◌, ◌++◌, codes}
use Rattle.plan_picture.specs.Rows.{Row, child_rows, root_rows, ArePreorder}
use Rattle.picture_html.specs.Bars.{max_levels}
use Rattle.picture_html.specs.Outline.{outline}

-- Some rows with all that is below them. A row with children that is below fewer than 40 lines is a summary, after which
-- come its children's rows with all that is below them, and then the end of its fold. After another row they stand flat.
pub data AreFolded (children : ℕ → List ℕ) (text : Bool → Row → List ℕ) : List Row → List ℕ → Type 0 where
  no_rows : AreFolded children text [] []
  fold : (row : Row) (rows : List Row) (below after : List ℕ) → children row.line ≢ [] → row.depth < max_levels
      → AreFolded children text (child_rows children row) below → AreFolded children text rows after
      → AreFolded children text (row ∷ rows) (text true row ++ (below ++ (codes "</details>\n" ++ after)))
  flat : (row : Row) (rows : List Row) (below after : List ℕ) → (children row.line ≡ []) ⊎ (max_levels ≤ row.depth)
      → AreFolded children text (child_rows children row) below → AreFolded children text rows after
      → AreFolded children text (row ∷ rows) (text false row ++ (below ++ after))

-- So it is with the outline of every forest, whatever is written of a row.
abbrev pub OutlinesAreFolded : Type 0
OutlinesAreFolded =
    (children : ℕ → List ℕ) (text : Bool → Row → List ℕ) (roots : List ℕ) (rows : List Row) → ArePreorder children (root_rows roots) rows
    → AreFolded children text (root_rows roots) (outline text rows)
