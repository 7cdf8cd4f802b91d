use Rattle.std.proofs.Common.{◌≡◌, take}
use Rattle.pair_messages.specs.Counts.{literals_counted}
use Rattle.pair_messages.proofs.summary.count_literals.Given as goal

-- those so far
abbrev pub invariant-loop-condition : goal.invariant-loop-condition
invariant-loop-condition l = l.count ≡ literals_counted (take l.condition-index l.conditions)
