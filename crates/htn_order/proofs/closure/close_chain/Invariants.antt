use Rattle.htn_order.proofs.Successors.{Ascends}
use Rattle.htn_order.proofs.closure.close_chain.Given as goal

abbrev pub invariant-loop-k : goal.invariant-loop-k
invariant-loop-k l = Ascends l.pairs l.k
