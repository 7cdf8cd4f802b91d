-- Definitions on small values: bars, a line, and the outline of a small forest.
use Rattle.std.specs.Prelude.{ℕ, ◌+◌, Bool, if◌then◌else◌, List, [], ◌∷◌, ◌++◌, codes}
use Rattle.plan_picture.specs.Rows.{Row}
use Rattle.picture_text.specs.Lines.{Line, task}
use Rattle.picture_html.specs.declared.bars.Bar.{Bar}

-- three numbers and their bars
abbrev pub numbers : List ℕ
numbers = 0 ∷ 2 ∷ 3 ∷ []

abbrev pub bars : List Bar
bars = record { first = 0; last = 0 } ∷ record { first = 2; last = 3 } ∷ []

-- a sign for each row, and the digit of its line
abbrev pub sign : Bool → Row → List ℕ
sign folds row = (if folds then codes "+" else codes "-") ++ (row.line + 48) ∷ []

-- a line
abbrev pub tea : Line
tea = task (record { id = 6; task = codes "make"; arguments = codes "tea" ∷ []; method = codes "m-tea"; children = 0 ∷ 1 ∷ [] })
