use Rattle.std.proofs.Common.{take}
use Rattle.network_table.specs.Networks.{numbered_at}
use Rattle.network_table.specs.Expansions.{AreRemovals}
use Rattle.network_table.proofs.table.NetworkTable.noted_removals.Given as goal

abbrev pub invariant-loop-position : goal.invariant-loop-position
invariant-loop-position l = AreRemovals l.self (numbered_at l.self l.job.network) (take l.position-index l.position-items) l.removals.items
