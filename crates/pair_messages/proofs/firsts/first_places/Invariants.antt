use Rattle.std.proofs.Common.{take}
use Rattle.pair_messages.specs.Firsts.{AreFirstOf}
use Rattle.pair_messages.proofs.firsts.first_places.Given as goal

-- those so far
abbrev pub invariant-loop-mention : goal.invariant-loop-mention
invariant-loop-mention l = AreFirstOf (take l.mention-index l.mentions) l.places
