-- How early everything below a line can have finished.
use Rattle.std.specs.Prelude.{ℕ, ◌≤◌, Option, Some, None}
use Rattle.plan_room.specs.Lines.{Lines}
use Rattle.plan_room.specs.Memo.{IsMemo}
use Rattle.plan_room.specs.Placing.{IsFirst}
use Rattle.plan_room.specs.Seats.{LineFits}
use Rattle.plan_room.specs.declared.ends.Ends.{Ends}

-- the first gap by which everything below the line can have finished that starts at gap g or later; none up to the last
abbrev pub IsEnd : Lines → (line g : ℕ) → Option ℕ → Type 0
IsEnd l i g None = (h : ℕ) → h ≤ l.actions → LineFits l i g h → ⊥
IsEnd l i g (Some end) = IsFirst (LineFits l i g) l.actions end

-- what was asked of these lines was answered right
abbrev pub AreEnds : Lines → Ends → Type 0
AreEnds l ends = IsMemo l ends.memo
