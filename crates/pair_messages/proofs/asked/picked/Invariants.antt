use Rattle.std.specs.List.{All}
use Rattle.hddl_words.specs.declared.network.NetworkText.{NetworkText}
use Rattle.pair_messages.specs.Notes.{IsAsked}
use Rattle.pair_messages.proofs.asked.picked.Given as goal

-- those so far
abbrev pub invariant-loop-number : goal.invariant-loop-number
invariant-loop-number l = (n : NetworkText) → All (IsAsked n) l.pairs → All (IsAsked n) l.found.items
