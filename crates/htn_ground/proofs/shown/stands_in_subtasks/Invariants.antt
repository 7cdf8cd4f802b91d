use Rattle.std.proofs.Common.{◌≡◌, drop}
use Rattle.std.specs.List.{list_any}
use Rattle.htn_ground.specs.Shown.{stands_in_task}
use Rattle.htn_ground.proofs.shown.stands_in_subtasks.Given as goal

abbrev pub invariant-loop-subtask : goal.invariant-loop-subtask
invariant-loop-subtask l = list_any (stands_in_task l.place) (drop l.subtask-index l.subtasks) ≡ list_any (stands_in_task l.place) l.subtasks
