use Rattle.std.proofs.Common.{All}
use Rattle.std.specs.Vec.Iter.{into_iter_items}
use Rattle.heuristics.specs.FoundNeeds.{IsFound}
use Rattle.heuristics.specs.ListedNeeds.{AreFollowed}
use Rattle.heuristics.proofs.needs_table.NeedsTable.put_part.Given as goal

-- what is left was found, and what was put down is right
abbrev pub invariant-loop-one : goal.invariant-loop-one
invariant-loop-one l = record {
  found : All (IsFound l.prospects l.initial.self l.networks) (into_iter_items l.one-iterator);
  followed : AreFollowed l.prospects l.networks l.initial.self l.self;
}
