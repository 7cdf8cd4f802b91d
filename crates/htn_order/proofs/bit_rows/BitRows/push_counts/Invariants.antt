use Rattle.htn_order.specs.Counts.{AreCounted}
use Rattle.htn_order.proofs.bit_rows.BitRows.push_counts.Given as goal

abbrev pub invariant-loop-position : goal.invariant-loop-position
invariant-loop-position l = AreCounted l.self l.position l.counts.items
