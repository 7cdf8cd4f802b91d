-- Lines of plan files by their numbers: first the action lines, then the decomposition lines.
use Rattle.std.specs.Prelude.{ℕ, ◌-◌, nat_lt, if◌then◌else◌, length, Option, Some, None, slice_get}
use Rattle.std.specs.Option.{option_map}
use Rattle.htn_model.specs.PlanFile.{ActionLine, DecompositionLine, PlanFile}

-- a line that has an id
pub data Line : Type 0 where
  action : ActionLine → Line
  task : DecompositionLine → Line

abbrev pub id_of : Line → ℕ
id_of (action line) = line.id
id_of (task line) = line.id

-- the line with a number
abbrev pub line_at : PlanFile → ℕ → Option Line
line_at file number =
    if nat_lt number (length file.actions) then option_map action (slice_get file.actions number)
    else option_map task (slice_get file.decompositions (number - length file.actions))

abbrev pub id_or_zero : Option Line → ℕ
id_or_zero None = 0
id_or_zero (Some line) = id_of line

-- the id of the line with a number
abbrev pub id_at : PlanFile → ℕ → ℕ
id_at file number = id_or_zero (line_at file number)
