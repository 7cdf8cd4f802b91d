-- How wide the boxes of lines are.
use Rattle.std.specs.Prelude.{ℕ, ◌+◌, ◌*◌, length, max, Option, Some, None}
use Rattle.htn_model.specs.PlanFile.{PlanFile}
use Rattle.picture_text.specs.declared.caption.Caption.{Caption}
use Rattle.picture_text.specs.Lines.{Line, action, task, line_at}
use Rattle.picture_text.specs.Dot.{words_of}
use Rattle.picture_text.specs.Text.{width_of}

-- A box with two texts is as wide as the longer one and its margins: a byte of the upper one has 7 units, one of the lower
-- one 6.
abbrev pub box_width : ℕ → ℕ → ℕ
box_width upper lower = 20 + max (7 * upper) (6 * lower)

-- the width of a line's box, where the positions of actions have some digits: a task's words stand above its method, an
-- action's behind its position
abbrev pub line_width : ℕ → Line → ℕ
line_width digits (action line) = 32 + 7 * (digits + length (words_of (action line)))
line_width digits (task line) = box_width (length (words_of (task line))) (length line.method)

-- the width of a line's box, 0 where there is no such line
abbrev pub width_or_zero : ℕ → Option Line → ℕ
width_or_zero digits None = 0
width_or_zero digits (Some line) = line_width digits line

-- the width of the box of the line with a number
abbrev pub width_at : PlanFile → ℕ → ℕ
width_at file number = width_or_zero (width_of file) (line_at file number)

-- the width of the box of the problem, whose name stands above the verdict
abbrev pub problem_width : Caption → ℕ
problem_width caption = box_width (length caption.problem.now) (length caption.verdict.now)
