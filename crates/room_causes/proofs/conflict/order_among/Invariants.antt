use Rattle.plan_room.specs.Ends.{AreEnds}
use Rattle.room_causes.proofs.conflict.order_among.Given as goal

abbrev pub invariant-loop-instance : goal.invariant-loop-instance
invariant-loop-instance g l = AreEnds (g.L.PlanLines.lines l.lines) l.ends
