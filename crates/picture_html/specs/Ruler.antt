-- The numbers above the time line.
use Rattle.std.specs.Prelude.{ℕ, ◌%◌, nat_le, nat_eq, if◌then◌else◌, List, [], ◌++◌, codes}
use Rattle.std.specs.List.{flat_map, range_with_len}
use Rattle.picture_html.specs.Label.{between}

-- how far the numbers are from one another, where there are some positions
abbrev pub step_of : ℕ → ℕ
step_of n = if nat_le n 30 then 1 else if nat_le n 150 then 5 else if nat_le n 1500 then 50 else if nat_le n 15000 then 500 else 5000

-- a number at its position
abbrev pub tick : ℕ → List ℕ
tick position = between (codes "<u style=\"--a:") position (codes "\">") ++ between (codes "") position (codes "</u>")

-- the same if the step divides it
abbrev pub tick_at : ℕ → ℕ → List ℕ
tick_at step position = if nat_eq (position % step) 0 then tick position else []

-- the numbers above some positions, from 0 on
abbrev pub ticks : ℕ → List ℕ
ticks n = flat_map (tick_at (step_of n)) (range_with_len 0 n)
