use Rattle.std.proofs.Common.{◌+◌, ◌-◌, length}
use Rattle.plan_text.specs.Forest.{lists_of}
use Rattle.plan_text.specs.Reached.{children_at}
use Rattle.plan_picture.specs.Rows.{root_rows, rows_within}
use Rattle.plan_picture.specs.Seen.{seen_all}
use Rattle.plan_picture.proofs.Waiting.{IsWalk}
use Rattle.plan_picture.proofs.walk.rows_of.Given as goal

abbrev pub invariant-loop-row : goal.invariant-loop-row
invariant-loop-row l =
    IsWalk (children_at l.actions (lists_of l.children)) (seen_all l.waiting.items) (seen_all l.rows.items)
    (rows_within (children_at l.actions (lists_of l.children)) (length l.children + 1) (root_rows l.roots))

-- the rows that are to come
abbrev pub decreases-loop-row : goal.decreases-loop-row
decreases-loop-row l = length (rows_within (children_at l.actions (lists_of l.children)) (length l.children + 1) (root_rows l.roots)) - length l.rows.items
