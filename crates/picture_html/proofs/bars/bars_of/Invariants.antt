use Rattle.std.proofs.Common.{◌≡◌, ◌+◌, ◌≤◌, length, drop}
use Rattle.plan_picture.specs.Seen.{seen_all}
use Rattle.picture_html.specs.Outline as lists
use Rattle.picture_html.specs.Runs as spec
use Rattle.picture_html.proofs.bars.bars_of.Given as goal

-- the bars of the rows from some place on
abbrev pub invariant-loop-left : goal.invariant-loop-left
invariant-loop-left l = record {
  within : l.left ≤ length l.rows;
  size : length l.bars.items ≡ l.actions + l.decompositions;
  so_far : spec.AreAllFound l.actions (drop l.left (seen_all l.rows)) (lists.bars_at l.bars.items);
}

abbrev pub decreases-loop-left : goal.decreases-loop-left
decreases-loop-left l = l.left
