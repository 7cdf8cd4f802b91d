use Rattle.std.proofs.Common.{All}
use Rattle.network_table.specs.Drafts.{IsFound}
use Rattle.network_table.proofs.table.NetworkTable.assemble_part.Given as goal

abbrev pub invariant-loop-number : goal.invariant-loop-number
invariant-loop-number l = All (IsFound l.self l.jobs) l.found.items
