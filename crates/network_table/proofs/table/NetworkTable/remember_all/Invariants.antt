use Rattle.std.proofs.Common.{All}
use Rattle.std.specs.Vec.Iter.{into_iter_items}
use Rattle.network_table.specs.Drafts.{AreRemembered, HoldsFound}
use Rattle.network_table.proofs.table.NetworkTable.remember_all.Given as goal

abbrev pub invariant-loop-found : goal.invariant-loop-found
invariant-loop-found l = record {
  are : AreRemembered l.initial.self l.self l.jobs;
  left : All (HoldsFound l.initial.self l.jobs) (into_iter_items l.found-iterator);
}
