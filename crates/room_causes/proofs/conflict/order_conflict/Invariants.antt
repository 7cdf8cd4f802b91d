use Rattle.plan_room.specs.Ends.{AreEnds}
use Rattle.room_causes.proofs.conflict.order_conflict.Given as goal

abbrev pub invariant-loop-after : goal.invariant-loop-after
invariant-loop-after g l = AreEnds (g.L.PlanLines.lines l.lines) l.ends
