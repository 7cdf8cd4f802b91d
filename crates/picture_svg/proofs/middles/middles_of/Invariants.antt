use Rattle.std.proofs.Common.{◌≡◌, ◌+◌, ◌≤◌, length, get_or, take, drop}
use Rattle.plan_text.specs.Forest.{lists_of}
use Rattle.plan_text.specs.Reached as reached
use Rattle.plan_picture.specs.Seen.{seen_all}
use Rattle.picture_svg.specs.Grid as spec
use Rattle.picture_svg.proofs.middles.middles_of.Given as goal

-- the middles of the rows from some place on
abbrev pub invariant-loop-left : goal.invariant-loop-left
invariant-loop-left l = record {
  within : l.left ≤ length l.rows;
  size : length l.middles.items ≡ l.actions + l.decompositions;
  places : l.place ≡ spec.place_count (reached.children_at l.actions (lists_of l.children)) (take l.left (seen_all l.rows));
  so_far : spec.AreCentred (reached.children_at l.actions (lists_of l.children)) (λ line. get_or l.middles.items line 0) l.place (drop l.left (seen_all l.rows));
}

abbrev pub decreases-loop-left : goal.decreases-loop-left
decreases-loop-left l = l.left
