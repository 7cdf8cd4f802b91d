use Rattle.std.proofs.Common.{◌≡◌, ◌+◌, drop}
use Rattle.plan_room.proofs.Subtasks.{subtasks}
use Rattle.plan_room.proofs.window.subtask_count.Given as goal

-- those so far, with those that are left
abbrev pub invariant-loop-child : goal.invariant-loop-child
invariant-loop-child l = l.count + subtasks (drop l.child-index l.child-items) ≡ subtasks l.child-items
