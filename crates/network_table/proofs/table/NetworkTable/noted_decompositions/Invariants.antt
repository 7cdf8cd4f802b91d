use Rattle.std.proofs.Common.{take}
use Rattle.network_table.specs.Networks.{numbered_at}
use Rattle.network_table.specs.Expansions.{AreDecompositions}
use Rattle.network_table.proofs.table.NetworkTable.noted_decompositions.Given as goal

abbrev pub invariant-loop-place : goal.invariant-loop-place
invariant-loop-place l = AreDecompositions l.self (numbered_at l.self l.job.network) l.position (take l.place l.job.instances.now) l.successors.items
