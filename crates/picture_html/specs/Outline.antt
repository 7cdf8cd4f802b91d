-- The outline: a row for each line, from the top down, and what folds under it.
use Rattle.std.specs.Prelude.{ℕ, zero, suc, ◌-◌, ◌&&◌, Bool, nat_lt, List, [], ◌∷◌, ◌++◌, length, get_or, map, codes, Option, Vec}
use Rattle.htn_model.specs.PlanFile.{PlanFile}
use Rattle.picture_text.specs.declared.caption.Mark.{Mark}
use Rattle.plan_picture.specs.Rows.{Row}
use Rattle.picture_text.specs.declared.detail.Detail.{Detail}
use Rattle.picture_text.specs.Details.{detail_at}
use Rattle.picture_text.specs.Lines.{line_at}
use Rattle.picture_html.specs.declared.bars.Bar.{Bar}
use Rattle.picture_html.specs.Bars.{max_levels}
use Rattle.picture_html.specs.Row.{level, row_text}

-- the bars that are stored of a line
abbrev pub bars_at : {A : Type 0} → List (Vec Bar A) → ℕ → List Bar
bars_at bars line = get_or (map (λ v. v.items) bars) line []

-- the row of a line, with its bars and with what a solution says of it
abbrev pub line_row : Option Mark → PlanFile → Option (List Detail) → (ℕ → List Bar) → Bool → Row → List ℕ
line_row mark file details bars folds row = row_text mark folds row (line_at file row.line) (bars row.line) (detail_at details (length file.actions) row.line)

-- how many lines the first row is below; 0 where there is none
abbrev pub next_depth : List Row → ℕ
next_depth [] = 0
next_depth (row ∷ rows) = row.depth

-- whether a row folds: the next one is below more lines, and it is below fewer than 40
abbrev pub folds : ℕ → ℕ → Bool
folds depth next = nat_lt depth next && nat_lt depth max_levels

-- the ends of some folds
abbrev pub ends : ℕ → List ℕ
ends zero = []
ends (suc n) = codes "</details>\n" ++ ends n

-- a row before one that is below some lines, and the ends of the folds between the two
abbrev pub step : (Bool → Row → List ℕ) → Row → ℕ → List ℕ
step text row next = text (folds row.depth next) row ++ ends (level row.depth - level next)

-- all rows
abbrev pub outline : (Bool → Row → List ℕ) → List Row → List ℕ
outline text [] = []
outline text (row ∷ rows) = step text row (next_depth rows) ++ outline text rows
