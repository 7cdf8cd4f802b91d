-- Causes for which the lines of a file have no room.
use Rattle.std.proofs.Common.{◌≡◌, List, Option, Some, None, map}
use Rattle.std.specs.Option.{MatchOption}
use Rattle.std.specs.Prelude.{⊤}
use Rattle.htn_ground.specs.Naming.{naming_of}
use Rattle.htn_model.specs.PlanFile.{PlanFile}
use Rattle.htn_model.specs.Problem.{GroundTask}
use Rattle.htn_model.specs.Task.{Task}
use Rattle.plan_text.specs.Forest.{Forest, IsForestOf}
use Rattle.room_causes.specs.Conflicts.{IsRoomCause}
use Rattle.room_causes.specs.declared.cause.RoomCause.{RoomCause}
use Rattle.htn_verify.specs.Named.{named_tasks}
use Rattle.htn_verify.specs.Placed.{placed_lines}
use Rattle.htn_verify.specs.Rooms.{IsCauseOf}

-- what is said where there is no cause may be left out
pub cause_alone : (A : Type 0) (P : RoomCause → Type 0) (r : Option RoomCause) → MatchOption r A P → MatchOption r ⊤ P
cause_alone A P None is = tt
cause_alone A P (Some cause) is = is

-- a cause for the lines of a file's forest is one for the file
pub cause_of_file : (t : Task) (file : PlanFile) (forest : Forest) (tasks : List GroundTask) (r : Option RoomCause) → IsForestOf file forest → map Some tasks ≡ named_tasks (naming_of t) file
    → MatchOption r ⊤ (IsRoomCause (placed_lines t file forest tasks)) → MatchOption r ⊤ (IsCauseOf t file)
cause_of_file t file forest tasks None is_forest named is = tt
cause_of_file t file forest tasks (Some cause) is_forest named is = (forest, tasks, is_forest, named, is)
