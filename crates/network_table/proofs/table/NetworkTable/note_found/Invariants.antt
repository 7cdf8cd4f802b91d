use Rattle.network_table.specs.Drafts.{AreKnown}
use Rattle.network_table.proofs.table.NetworkTable.note_found.Given as goal

abbrev pub invariant-loop-one : goal.invariant-loop-one
invariant-loop-one l = AreKnown l.self l.jobs l.noted.items
