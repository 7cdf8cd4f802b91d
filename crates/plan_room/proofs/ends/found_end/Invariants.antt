use Rattle.std.proofs.Common.{◌<◌, ◌+◌, ◌*◌, suc, length}
use Rattle.plan_room.specs.Memo.{IsMemo}
use Rattle.plan_room.specs.Frames.{AreStacked, last_size, line_size, missing, StartsAt}
use Rattle.plan_room.proofs.ends.found_end.Given as goal

abbrev pub invariant-loop-frame : goal.invariant-loop-frame
invariant-loop-frame g l = record {
  memo : IsMemo (g.L.PlanLines.lines l.lines) l.memo;
  some : 0 < length l.frames.items;
  starts : StartsAt l.fn.asked l.frames.items;
  stacked : AreStacked (g.L.PlanLines.lines l.lines) l.memo (suc (line_size (g.L.PlanLines.lines l.lines) l.fn.asked.line)) l.frames.items;
}

abbrev pub decreases-loop-frame : goal.decreases-loop-frame
decreases-loop-frame g l =
    missing (g.L.PlanLines.lines l.lines) l.memo * suc (line_size (g.L.PlanLines.lines l.lines) l.fn.asked.line)
    + last_size (g.L.PlanLines.lines l.lines) (suc (line_size (g.L.PlanLines.lines l.lines) l.fn.asked.line)) l.frames.items
