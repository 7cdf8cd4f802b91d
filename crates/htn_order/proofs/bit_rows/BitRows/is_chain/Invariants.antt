use Rattle.htn_order.proofs.Chains.{NextBelow}
use Rattle.htn_order.proofs.bit_rows.BitRows.is_chain.Given as goal

abbrev pub invariant-loop-b : goal.invariant-loop-b
invariant-loop-b l = NextBelow l.self l.b
