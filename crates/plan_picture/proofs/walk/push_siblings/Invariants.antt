use Rattle.std.proofs.Common.{◌≡◌, ◌≤◌, ◌++◌, length, reverse, drop}
use Rattle.plan_picture.specs.Rows.{siblings}
use Rattle.plan_picture.specs.Seen.{seen_all}
use Rattle.plan_picture.proofs.walk.push_siblings.Given as goal

-- those from some place on
abbrev pub invariant-loop-left : goal.invariant-loop-left
invariant-loop-left l = record {
  within : l.left ≤ length l.lines;
  there : seen_all l.waiting.items ≡ seen_all l.fn.waiting.items ++ reverse (siblings l.parent l.depth l.above (drop l.left l.lines));
}

abbrev pub decreases-loop-left : goal.decreases-loop-left
decreases-loop-left l = l.left
