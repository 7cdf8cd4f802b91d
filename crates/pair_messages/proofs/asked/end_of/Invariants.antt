use Rattle.std.proofs.Common.{take}
use Rattle.pair_messages.specs.Notes.{Leads}
use Rattle.pair_messages.proofs.asked.end_of.Given as goal

-- those so far lead to the last position
abbrev pub invariant-loop-pair : goal.invariant-loop-pair
invariant-loop-pair l = Leads l.first (take l.pair-index l.pairs) l.last
