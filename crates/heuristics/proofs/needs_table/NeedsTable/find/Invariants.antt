use Rattle.std.proofs.Common.{All}
use Rattle.heuristics.specs.FoundNeeds.{IsFound}
use Rattle.heuristics.proofs.needs_table.NeedsTable.find.Given as goal

-- that of the networks so far
abbrev pub invariant-loop-number : goal.invariant-loop-number
invariant-loop-number l = All (IsFound l.prospects l.self l.networks) l.found.items
