use Rattle.std.proofs.Common.{◌≡◌, ◌+◌, ◌≤◌, ◌++◌, length, take, drop}
use Rattle.std.specs.Option.{option_map}
use Rattle.plan_text.specs.FileText.{before_end}
use Rattle.plan_text.proofs.reader.count_to_end.Given as goal

-- the lines that were counted are no end markers
abbrev pub invariant-loop-line : goal.invariant-loop-line
invariant-loop-line l = record {
  few : length l.lines ≤ 16777217;
  left_is : l.left ≡ drop l.count l.lines;
  counted : l.count ≤ length l.lines;
  same : before_end l.lines ≡ option_map (λ lines. take l.count l.lines ++ lines) (before_end l.left);
}

abbrev pub decreases-loop-line : goal.decreases-loop-line
decreases-loop-line l = length l.left
