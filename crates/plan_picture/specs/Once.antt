-- Each line of a file is in its picture once.
use Rattle.std.specs.Prelude.{ℕ, ◌<◌, List, length}
use Rattle.htn_model.specs.PlanFile.{PlanFile, IsIn, IsWithoutRepeats, defined_ids}
use Rattle.plan_picture.specs.Rows.{Row}
use Rattle.plan_picture.specs.Firsts.{lines_of}
use Rattle.plan_picture.specs.Picture.{IsDrawing}

-- among these is each number below another one, once, and no other
pub record AreAllOnce (count : ℕ) (lines : List ℕ) : Type 0 where
  pub within : (line : ℕ) → IsIn line lines → line < count
  pub all : (line : ℕ) → line < count → IsIn line lines
  pub once : IsWithoutRepeats lines

-- the rows of a drawing have each line once, and no other
abbrev pub DrawingsHaveAllOnce : Type 0
DrawingsHaveAllOnce =
    (file : PlanFile) (roots : List ℕ) (children : List (List ℕ)) (rows : List Row) → IsDrawing file roots children rows → AreAllOnce (length (defined_ids file)) (lines_of rows)
