use Rattle.std.proofs.Common.{◌≡◌, ◌+◌, ◌≤◌, length, drop}
use Rattle.plan_text.specs.Forest.{lists_of}
use Rattle.plan_text.specs.Reached as reached
use Rattle.plan_picture.specs.Seen.{seen_all}
use Rattle.picture_svg.specs.Grid as spec
use Rattle.picture_svg.proofs.middles.place_count.Given as goal

-- the places of the rows from some place on
abbrev pub invariant-loop-left : goal.invariant-loop-left
invariant-loop-left l = record {
  few : l.count + l.left ≤ length l.rows;
  so_far : l.count ≡ spec.place_count (reached.children_at l.actions (lists_of l.children)) (drop l.left (seen_all l.rows));
}

abbrev pub decreases-loop-left : goal.decreases-loop-left
decreases-loop-left l = l.left
