use Rattle.std.proofs.Common.{All}
use Rattle.std.specs.Vec.Iter.{into_iter_items}
use Rattle.heuristics.specs.FoundNeeds.{HoldsFound}
use Rattle.heuristics.specs.ListedNeeds.{AreFollowed}
use Rattle.heuristics.proofs.needs_table.NeedsTable.keep_networks_all.Given as goal

-- what is left was found, and what was put down is right
abbrev pub invariant-loop-part : goal.invariant-loop-part
invariant-loop-part g l = record {
  parts : All (HoldsFound l.prospects l.initial.self l.networks) (into_iter_items l.part-iterator);
  followed : AreFollowed l.prospects l.networks l.initial.self l.self;
}
