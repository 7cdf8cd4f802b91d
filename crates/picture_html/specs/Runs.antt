-- How bars are found: from the rows of a line, by their numbers in ascending order.
use Rattle.std.specs.Prelude.{◌≡◌, ℕ, ◌-◌, true, false, nat_lt, nat_eq, if◌then◌else◌, List, [], ◌∷◌}
use Rattle.std.specs.List.{flat_map}
use Rattle.htn_model.specs.PlanFile.{IsIn}
use Rattle.plan_picture.specs.Rows.{Row}
use Rattle.picture_html.specs.declared.bars.Bar.{Bar}
use Rattle.picture_html.specs.Bars.{AreRuns, has_bars}

-- the bar over one number
abbrev pub single : ℕ → Bar
single n = record { first = n; last = n }

-- bars with one more number, which is no greater than those that they cover
abbrev pub with_number : ℕ → List Bar → List Bar
with_number n [] = single n ∷ []
with_number n (bar ∷ bars) =
    if nat_lt n bar.first then (if nat_eq (bar.first - n) 1 then record { first = n; last = bar.last } ∷ bars else single n ∷ bar ∷ bars) else bar ∷ bars

-- the bars over ascending numbers
abbrev pub runs_of : List ℕ → List Bar
runs_of [] = []
runs_of (n ∷ numbers) = with_number n (runs_of numbers)

-- the rows up to the first that is not below more lines than some number
abbrev pub deeper : ℕ → List Row → List Row
deeper depth [] = []
deeper depth (row ∷ rows) = if nat_lt depth row.depth then row ∷ deeper depth rows else []

-- the first row with those below it
abbrev pub own_rows : List Row → List Row
own_rows [] = []
own_rows (row ∷ rows) = row ∷ deeper row.depth rows

-- the position of a row's line, if that is an action
abbrev pub own_position : ℕ → Row → List ℕ
own_position actions row = if nat_lt row.line actions then row.line ∷ [] else []

-- the positions of the actions among rows
abbrev pub positions : ℕ → List Row → List ℕ
positions actions rows = flat_map (own_position actions) rows

-- the bars of a row before others: over the positions among it and the rows below it
pub record AreFound (actions : ℕ) (row : Row) (rows : List Row) (bars : List Bar) : Type 0 where
  pub drawn : has_bars actions row ≡ true → AreRuns (λ n. IsIn n (positions actions (row ∷ deeper row.depth rows))) bars
  pub left_out : has_bars actions row ≡ false → bars ≡ []

-- those of the first row
abbrev pub AreFoundFirst : ℕ → List Row → List Bar → Type 0
AreFoundFirst actions [] bars = Unit {0}
AreFoundFirst actions (row ∷ rows) bars = AreFound actions row rows bars

-- those of each row, by the number of its line
abbrev pub AreAllFound : ℕ → List Row → (ℕ → List Bar) → Type 0
AreAllFound actions [] bars = Unit {0}
AreAllFound actions (row ∷ rows) bars = AreFound actions row rows (bars row.line) × AreAllFound actions rows bars
