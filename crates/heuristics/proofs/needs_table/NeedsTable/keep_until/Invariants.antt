use Rattle.std.proofs.Common.{◌≡◌, length}
use Rattle.heuristics.specs.ListedNeeds.{AreFollowed}
use Rattle.heuristics.proofs.needs_table.NeedsTable.keep_until.Given as goal

-- that of the networks so far
abbrev pub invariant-loop-number : goal.invariant-loop-number
invariant-loop-number l = record {
  followed : AreFollowed l.prospects l.networks l.initial.self l.self;
  count : length l.self.needs.items ≡ l.number;
}
