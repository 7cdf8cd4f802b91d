use Rattle.std.proofs.Common.{◌≡◌, ◌+◌, ◌<◌, ℕ, Some, slice_get}
use Rattle.line_details.specs.Entries.{HasRoomIn}
use Rattle.line_details.specs.declared.entry.Entry.{Entry}
use Rattle.line_details.proofs.room.lines_have_room.Given as goal

abbrev pub invariant-loop-place : goal.invariant-loop-place
invariant-loop-place g l = (j : ℕ) (e : Entry) → j < l.place → slice_get l.entries j ≡ Some e
    → HasRoomIn (g.L.PlanLines.lines l.lines) l.entries e ((g.L.PlanLines.lines l.lines).children ((g.L.PlanLines.lines l.lines).actions + j))
