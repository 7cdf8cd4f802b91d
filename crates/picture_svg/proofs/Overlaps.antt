-- No two boxes of a picture overlap.
use Rattle.std.proofs.Common.{◌≢◌, ◌+◌, ◌<◌, ◌≤◌, ◌⊎◌, inl, inr, arith}
use Rattle.std.proofs.lemmas.Bool.{cases_lt}
use Rattle.htn_model.specs.PlanFile.{IsIn}
use Rattle.plan_picture.specs.declared.picture.Picture.{Picture}
use Rattle.plan_picture.specs.Picture.{IsPictureOf}
use Rattle.plan_picture.specs.Rows.{Row}
use Rattle.picture_text.specs.declared.caption.Caption.{Caption}
use Rattle.picture_svg.specs.declared.layout.Layout.{Layout}
use Rattle.picture_svg.specs.Apart.{AreApart, is_left, is_right, is_above, is_below, HasNoOverlap}
use Rattle.picture_svg.specs.Grid.{rows_of}
use Rattle.picture_svg.specs.Layout.{IsLayoutOf, box}
use Rattle.picture_svg.proofs.Lefts.{before_column, task_before_last, task_column}
use Rattle.picture_svg.proofs.Spots.{mid_low, Far, same_column, actions_far, spot_action, spot_task, first_left, left_bound}

module _ (caption : Caption) (picture : Picture) (layout : Layout) (is : IsLayoutOf caption picture layout) (pic : IsPictureOf picture.file.now picture) where
  -- boxes of one kind whose middles are far from each other
  both_actions : (r s : Row) → IsIn r (rows_of picture) → IsIn s (rows_of picture) → r.line < is.grid.actions → s.line < is.grid.actions → Far caption picture layout is pic r s → AreApart (box is.grid r) (box is.grid s)
  both_actions r s i j a b far =
      let p = spot_action caption picture layout is pic r a in
      let q = spot_action caption picture layout is pic s b in
      let py = p.y_is in
      let ph = p.height_is in
      let qy = q.y_is in
      let qh = q.height_is in
      let rl = mid_low caption picture layout is pic r i in
      let sl = mid_low caption picture layout is pic s j in
      elim far [
        | inl up ↦ is_above (omega arith)
        | inr down ↦ is_below (omega arith)
      ]

  both_tasks : (r s : Row) → IsIn r (rows_of picture) → IsIn s (rows_of picture) → is.grid.actions ≤ r.line → is.grid.actions ≤ s.line → Far caption picture layout is pic r s → AreApart (box is.grid r) (box is.grid s)
  both_tasks r s i j a b far =
      let p = spot_task caption picture layout is pic r a in
      let q = spot_task caption picture layout is pic s b in
      let py = p.y_is in
      let ph = p.height_is in
      let qy = q.y_is in
      let qh = q.height_is in
      let rl = mid_low caption picture layout is pic r i in
      let sl = mid_low caption picture layout is pic s j in
      elim far [
        | inl up ↦ is_above (omega arith)
        | inr down ↦ is_below (omega arith)
      ]

  -- a task stands left of an action
  task_left : (r s : Row) → IsIn r (rows_of picture) → is.grid.actions ≤ r.line → s.line < is.grid.actions → (box is.grid r).x + (box is.grid r).width ≤ (box is.grid s).x
  task_left r s i a b =
      let p = spot_task caption picture layout is pic r a in
      let q = spot_action caption picture layout is pic s b in
      let px = p.x_is in
      let pw = p.width_is in
      let qx = q.x_is in
      let last = task_before_last caption picture is.grid is.is_grid r i a in
      omega arith

  -- and left of a deeper task
  column_left : (r s : Row) → IsIn r (rows_of picture) → IsIn s (rows_of picture) → is.grid.actions ≤ r.line → is.grid.actions ≤ s.line → r.depth < s.depth
      → (box is.grid r).x + (box is.grid r).width ≤ (box is.grid s).x
  column_left r s i j a b less =
      let p = spot_task caption picture layout is pic r a in
      let q = spot_task caption picture layout is pic s b in
      let px = p.x_is in
      let pw = p.width_is in
      let qx = q.x_is in
      let own = task_column is.grid.actions (rows_of picture) s j b in
      let next = before_column caption picture is.grid is.is_grid r s.depth i a less (omega arith) in
      omega arith

  two_tasks : (r s : Row) → IsIn r (rows_of picture) → IsIn s (rows_of picture) → r.line ≢ s.line → is.grid.actions ≤ r.line → is.grid.actions ≤ s.line → AreApart (box is.grid r) (box is.grid s)
  two_tasks r s i j other a b =
      elim (cases_lt r.depth s.depth) [
        | inl less ↦ is_left (column_left r s i j a b less)
        | inr more ↦ (elim (cases_lt s.depth r.depth) [
          | inl less ↦ is_right (column_left s r j i b a less)
          | inr same ↦ both_tasks r s i j a b (same_column caption picture layout is pic r s i j other (omega arith))
        ])
      ]

  two_lines : (r s : Row) → IsIn r (rows_of picture) → IsIn s (rows_of picture) → r.line ≢ s.line → AreApart (box is.grid r) (box is.grid s)
  two_lines r s i j other = by (cases_lt r.line is.grid.actions) (cases_lt s.line is.grid.actions)
    where
      by : (r.line < is.grid.actions) ⊎ (is.grid.actions ≤ r.line) → (s.line < is.grid.actions) ⊎ (is.grid.actions ≤ s.line) → AreApart (box is.grid r) (box is.grid s)
      by (inl a) (inl b) = both_actions r s i j a b (actions_far caption picture layout is pic r s i j other a b)
      by (inl a) (inr b) = is_right (task_left s r j b a)
      by (inr a) (inl b) = is_left (task_left r s i a b)
      by (inr a) (inr b) = two_tasks r s i j other a b

  problem_left : (r : Row) → IsIn r (rows_of picture) → layout.problem.x + layout.problem.width ≤ (box is.grid r).x
  problem_left r i = let first = first_left caption picture layout is pic in let bound = left_bound caption picture layout is pic r i in omega arith

  pub no_overlap : HasNoOverlap caption picture layout is
  no_overlap = record { of_lines = two_lines; of_problem = λ r i. is_left (problem_left r i) }
