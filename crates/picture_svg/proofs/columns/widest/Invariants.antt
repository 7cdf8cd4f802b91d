use Rattle.std.proofs.Common.{◌≤◌, length, get_or, drop}
use Rattle.plan_picture.specs.Seen.{seen_all}
use Rattle.picture_svg.specs.Columns.{AreWidest}
use Rattle.picture_svg.proofs.columns.widest.Given as goal

-- the widest boxes of the rows from some place on
abbrev pub invariant-loop-left : goal.invariant-loop-left
invariant-loop-left l = record {
  within : l.left ≤ length l.rows;
  so_far : AreWidest l.actions (λ line. get_or l.widths line 0) l.count (drop l.left (seen_all l.rows)) l.wide.items;
}

abbrev pub decreases-loop-left : goal.decreases-loop-left
decreases-loop-left l = l.left
