use Rattle.htn_order.proofs.LaneSums.{IsAdding}
use Rattle.htn_order.proofs.lanes.add_to_lanes.Given as goal

abbrev pub invariant-loop-i : goal.invariant-loop-i
invariant-loop-i l = IsAdding l.initial.words l.fn.word l.words l.carry l.i
