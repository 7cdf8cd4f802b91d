use Rattle.std.proofs.Common.{◌≡◌, ◌≤◌, length, drop}
use Rattle.plan_picture.specs.Seen.{seen_all}
use Rattle.picture_svg.specs.Grid as spec
use Rattle.picture_svg.proofs.columns.column_count.Given as goal

-- the columns of the rows from some place on
abbrev pub invariant-loop-left : goal.invariant-loop-left
invariant-loop-left l = record {
  within : l.left ≤ length l.rows;
  so_far : l.count ≡ spec.column_count l.actions (drop l.left (seen_all l.rows));
}

abbrev pub decreases-loop-left : goal.decreases-loop-left
decreases-loop-left l = l.left
