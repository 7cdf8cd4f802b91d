use Rattle.std.proofs.Common.{All}
use Rattle.std.specs.Vec.Iter.{into_iter_items}
use Rattle.network_table.specs.Networks.{IsMore, IsWhole}
use Rattle.network_table.specs.Drafts.{AreKnown, HoldsMade}
use Rattle.network_table.proofs.table.NetworkTable.note_all.Given as goal

abbrev pub invariant-loop-made : goal.invariant-loop-made
invariant-loop-made g l = record {
  whole : IsWhole l.self;
  more : IsMore l.initial.self l.self;
  made : All (HoldsMade l.initial.self l.jobs) (into_iter_items l.made-iterator);
  noted : AreKnown l.self l.jobs l.noted.items;
}
