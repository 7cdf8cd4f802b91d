use Rattle.std.proofs.Common.{◌≡◌, ◌<◌, ◌≤◌, ◌-◌, length, slice_get}
use Rattle.htn_ground.specs.Search.{completions, matches}
use Rattle.htn_ground.proofs.at_number.assignment_at.Given as goal

abbrev pub decreases-loop-values : goal.decreases-loop-values
decreases-loop-values l = length l.domains - length l.values

-- the number is that of the assignment among the completions so far
abbrev pub invariant-loop-values : goal.invariant-loop-values
invariant-loop-values l = record {
  small : length l.values ≤ length l.domains;
  within : l.number < length (completions l.domains l.relations l.values);
  same : slice_get (completions l.domains l.relations l.values) l.number ≡ slice_get (matches l.domains l.relations) l.initial.number;
}
