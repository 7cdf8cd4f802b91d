use Rattle.std.specs.List.{All}
use Rattle.pair_messages.specs.Notes.{IsAsked}
use Rattle.pair_messages.proofs.asked.listed_pairs.Given as goal

-- those so far
abbrev pub invariant-loop-after : goal.invariant-loop-after
invariant-loop-after l = All (IsAsked l.network) l.pairs.items
