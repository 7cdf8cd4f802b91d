-- Why the lines of a file can't be arranged.
use Rattle.std.specs.Prelude.{◌≡◌, List, Some, map}
use Rattle.htn_ground.specs.Naming.{naming_of}
use Rattle.htn_model.specs.PlanFile.{PlanFile}
use Rattle.htn_model.specs.Problem.{GroundTask}
use Rattle.htn_model.specs.Task.{Task}
use Rattle.htn_verify.specs.Named.{named_tasks}
use Rattle.htn_verify.specs.Placed.{placed_lines}
use Rattle.plan_text.specs.Forest.{Forest, IsForestOf}
use Rattle.room_causes.specs.Conflicts.{IsRoomCause}
use Rattle.room_causes.specs.declared.cause.RoomCause.{RoomCause}

-- the file is a forest of lines that name tasks, and this is a cause for which these lines have no room
abbrev pub IsCauseOf : Task → PlanFile → RoomCause → Type 0
IsCauseOf t file cause =
    (forest : Forest) × (tasks : List GroundTask) × IsForestOf file forest × (map Some tasks ≡ named_tasks (naming_of t) file)
    × IsRoomCause (placed_lines t file forest tasks) cause
