use Rattle.plan_room.specs.Ends.{AreEnds}
use Rattle.room_causes.proofs.conflict.soonest_ends.Given as goal

abbrev pub invariant-loop-position : goal.invariant-loop-position
invariant-loop-position g l = AreEnds (g.L.PlanLines.lines l.lines) l.ends
