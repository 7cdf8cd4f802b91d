use Rattle.std.proofs.Common.{◌≡◌, take}
use Rattle.pair_messages.specs.Counts.{literals_counted}
use Rattle.pair_messages.proofs.summary.+count_in_condition.Given as goal

abbrev pub decreases-count_in_condition : goal.decreases-count_in_condition
decreases-count_in_condition l = goal.size-count_in_condition l

-- those of the parts so far
abbrev pub invariant-loop-part : goal.invariant-loop-part
invariant-loop-part l = l.count ≡ literals_counted (take l.part-index l.part-items)
