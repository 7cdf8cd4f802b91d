use Rattle.std.proofs.Common.{◌*◌, length, min}
use Rattle.htn_order.specs.Counts.{AreCounted}
use Rattle.htn_order.proofs.bit_rows.BitRows.predecessor_counts.Given as goal

abbrev pub invariant-loop-k : goal.invariant-loop-k
invariant-loop-k l = AreCounted l.self (min (64 * l.k) (length l.self)) l.counts.items
