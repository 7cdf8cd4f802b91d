use Rattle.std.proofs.Common.{◌*◌}
use Rattle.htn_order.specs.Counts.{AreColumnCounts}
use Rattle.htn_order.proofs.bit_rows.BitRows.count_column.Given as goal

abbrev pub invariant-loop-a : goal.invariant-loop-a
invariant-loop-a l = AreColumnCounts l.self (64 * l.k) l.a l.lanes
