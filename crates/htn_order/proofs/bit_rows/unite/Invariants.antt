use Rattle.htn_order.proofs.Uniting.{UnitedUpTo}
use Rattle.htn_order.proofs.bit_rows.unite.Given as goal

abbrev pub invariant-loop-k : goal.invariant-loop-k
invariant-loop-k l = UnitedUpTo l.width l.initial.words l.a l.b l.k l.words
