use Rattle.network_table.specs.Drafts.{AreKnown}
use Rattle.network_table.proofs.table.NetworkTable.note_made.Given as goal

abbrev pub invariant-loop-index : goal.invariant-loop-index
invariant-loop-index g l = AreKnown l.self l.jobs l.noted.items
