use Rattle.std.proofs.Common.{All}
use Rattle.std.specs.Vec.Iter.{into_iter_items}
use Rattle.network_table.specs.Drafts.{AreRemembered, IsFound}
use Rattle.network_table.proofs.table.NetworkTable.remember_found.Given as goal

abbrev pub invariant-loop-one : goal.invariant-loop-one
invariant-loop-one l = record {
  are : AreRemembered l.initial.self l.self l.jobs;
  left : All (IsFound l.initial.self l.jobs) (into_iter_items l.one-iterator);
}
