use Rattle.std.proofs.Common.{◌≡◌, ℕ, ◌+◌, ◌≤◌, length, drop, get_or, None}
use Rattle.htn_model.specs.PlanFile.{IsIn}
use Rattle.plan_text.specs.Forest.{lists_of}
use Rattle.plan_text.specs.Reached.{children_at}
use Rattle.plan_picture.specs.Below.{IsFirstAction}
use Rattle.plan_picture.specs.Firsts.{lines_of}
use Rattle.plan_picture.specs.Seen.{seen_all}
use Rattle.plan_picture.proofs.firsts.firsts_of.Given as goal

-- those of the rows from some place on
abbrev pub invariant-loop-left : goal.invariant-loop-left
invariant-loop-left l = record {
  within : l.left ≤ length l.rows;
  size : length l.firsts.items ≡ l.actions + l.decompositions;
  found : (line : ℕ) → IsIn line (drop l.left (lines_of (seen_all l.rows)))
      → IsFirstAction l.actions (children_at l.actions (lists_of l.children)) line (get_or l.firsts.items line None);
}

abbrev pub decreases-loop-left : goal.decreases-loop-left
decreases-loop-left l = l.left
