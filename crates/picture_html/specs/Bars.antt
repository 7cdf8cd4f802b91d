-- Bars over the positions of the actions of a line.
use Rattle.std.specs.Prelude.{◌≡◌, ℕ, suc, ◌<◌, ◌≤◌, ◌||◌, Bool, true, false, nat_lt, nat_le, if◌then◌else◌, List, [], ◌∷◌}
use Rattle.htn_model.specs.PlanFile.{IsIn}
use Rattle.plan_picture.specs.declared.picture.Picture.{Picture}
use Rattle.plan_picture.specs.Below.{IsBelow}
use Rattle.plan_picture.specs.Rows.{Row}
use Rattle.picture_svg.specs.Grid.{rows_of, actions_of, children_of}
use Rattle.picture_html.specs.declared.bars.Bar.{Bar}

-- a bar covers the numbers from its first to its last
abbrev pub Covers : Bar → ℕ → Type 0
Covers bar n = (bar.first ≤ n) × (n ≤ bar.last)

-- A bar covers exactly a maximal run of the numbers of which something is so: it is so of each that it covers, and
-- neither of the number before them nor of the one after them.
pub record IsRun (P : ℕ → Type 0) (bar : Bar) : Type 0 where
  pub some : bar.first ≤ bar.last
  pub all : (n : ℕ) → Covers bar n → P n
  pub begins : (n : ℕ) → suc n ≡ bar.first → P n → ⊥
  pub ends : P (suc bar.last) → ⊥

-- each bar ends before those after it begin
abbrev pub AreInOrder : List Bar → Type 0
AreInOrder [] = Unit {0}
AreInOrder (bar ∷ bars) = ((next : Bar) → IsIn next bars → bar.last < next.first) × AreInOrder bars

-- exactly the maximal runs, in order
pub record AreRuns (P : ℕ → Type 0) (bars : List Bar) : Type 0 where
  pub runs : (bar : Bar) → IsIn bar bars → IsRun P bar
  pub all : (n : ℕ) → P n → (bar : Bar) × IsIn bar bars × Covers bar n
  pub order : AreInOrder bars

-- the position of an action that is a line or is below it
abbrev pub IsActionBelow : ℕ → (ℕ → List ℕ) → ℕ → ℕ → Type 0
IsActionBelow actions children line position = (position < actions) × IsBelow children line position

-- a row that is below 40 lines or more doesn't fold
abbrev pub max_levels : ℕ
max_levels = 40

-- the most lines that a task with bars is below, in a plan with some actions: past 2,000 actions, 4
abbrev pub bar_levels : ℕ → ℕ
bar_levels actions = if nat_le actions 2000 then max_levels else 4

-- whether a row has bars: an action has one, a task those of the actions below it, unless it is below too many lines
abbrev pub has_bars : ℕ → Row → Bool
has_bars actions row = nat_lt row.line actions || nat_le row.depth (bar_levels actions)

-- the bars of a row
pub record AreBarsOf (actions : ℕ) (children : ℕ → List ℕ) (row : Row) (bars : List Bar) : Type 0 where
  pub drawn : has_bars actions row ≡ true → AreRuns (IsActionBelow actions children row.line) bars
  pub left_out : has_bars actions row ≡ false → bars ≡ []

-- those of each row of a picture, by the number of its line
abbrev pub AreAllBars : Picture → (ℕ → List Bar) → Type 0
AreAllBars picture bars = (row : Row) → IsIn row (rows_of picture) → AreBarsOf (actions_of picture) (children_of picture) row (bars row.line)
