use Rattle.htn_order.proofs.JoinLoop.{JoinedBelow}
use Rattle.htn_order.proofs.closure.join.Given as goal

abbrev pub invariant-loop-x : goal.invariant-loop-x
invariant-loop-x l = JoinedBelow l.initial.rows l.a l.b l.x l.rows
