use Rattle.std.proofs.Common.{◌≡◌, ◌≤◌, length, drop, reverse}
use Rattle.picture_html.specs.Runs as spec
use Rattle.picture_html.proofs.bars.runs_of.Given as goal

-- the bars of the numbers from some place on
abbrev pub invariant-loop-left : goal.invariant-loop-left
invariant-loop-left l = record {
  within : l.left ≤ length l.numbers;
  so_far : reverse l.bars.items ≡ spec.runs_of (drop l.left l.numbers);
}

abbrev pub decreases-loop-left : goal.decreases-loop-left
decreases-loop-left l = l.left
