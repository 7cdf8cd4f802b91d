use Rattle.std.proofs.Common.{◌≡◌, ◌-◌, ◌++◌, length, drop}
use Rattle.plan_picture.specs.Seen.{seen_all}
use Rattle.picture_html.specs.Runs as spec
use Rattle.picture_html.proofs.bars.positions_at.Given as goal

-- the positions so far, and those in the rows that are left
abbrev pub invariant-loop-next : goal.invariant-loop-next
invariant-loop-next l =
    l.found.items ++ spec.positions l.actions (spec.deeper l.depth (drop l.next (seen_all l.rows))) ≡ spec.positions l.actions (spec.own_rows (drop l.place (seen_all l.rows)))

abbrev pub decreases-loop-next : goal.decreases-loop-next
decreases-loop-next l = length l.rows - l.next
