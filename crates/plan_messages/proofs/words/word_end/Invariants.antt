use Rattle.std.proofs.Common.{length, ◌-◌}
use Rattle.plan_messages.specs.Spots.{IsOnLine}
use Rattle.plan_messages.proofs.words.word_end.Given as goal

abbrev pub invariant-loop-at : goal.invariant-loop-at
invariant-loop-at l = IsOnLine l.text l.from l.at

abbrev pub decreases-loop-at : goal.decreases-loop-at
decreases-loop-at l = length l.text - l.at
