-- No edge of a picture crosses a box but those that it joins.
use Rattle.std.proofs.Common.{◌≡◌, ◌≢◌, ◌+◌, ◌-◌, ◌<◌, ◌≤◌, [], Some, None, ◌⊎◌, inl, inr, sym, ap, ◌∙◌, subst, arith}
use Rattle.std.proofs.lemmas.Bool.{cases_lt}
use Rattle.htn_model.specs.PlanFile.{IsIn}
use Rattle.plan_picture.specs.declared.picture.Picture.{Picture}
use Rattle.plan_picture.specs.Picture.{IsPictureOf}
use Rattle.plan_picture.specs.Rows.{Row, siblings, with_bar, child_rows, root_rows}
use Rattle.picture_text.specs.declared.caption.Caption.{Caption}
use Rattle.picture_svg.specs.declared.layout.Edge.{Edge}
use Rattle.picture_svg.specs.declared.layout.Layout.{Layout}
use Rattle.picture_svg.specs.Apart.{AreApart, is_left, is_right, is_above, is_below, IsClear, line_area, HasNoCrossing}
use Rattle.picture_svg.specs.Grid.{rows_of, children_of}
use Rattle.picture_svg.specs.Layout.{IsLayoutOf, box, edge, start, start_middle}
use Rattle.picture_svg.proofs.Blocks.{HasParent, first, child, has_parent, rows_among, child_depth, child_parent, root_depth, root_parent}
use Rattle.picture_svg.proofs.Lefts.{ordered, after_task, before_column, before_last, task_before_last, task_column}
use Rattle.picture_svg.proofs.Spots.{mid, mid_low, Far, rows_laid, beside_far, leaf_far, no_children, spot_action, spot_task, first_left, left_bound}

module _ (caption : Caption) (picture : Picture) (layout : Layout) (is : IsLayoutOf caption picture layout) (pic : IsPictureOf picture.file.now picture) where
  -- the edge to a row
  abbrev pub edge_to : Row → Edge
  edge_to r = edge layout.problem is.grid r

  -- a parent is a task
  pub parent_task : (p r : Row) → IsIn r (child_rows (children_of picture) p) → is.grid.actions ≤ p.line
  parent_task p r i = by (cases_lt p.line is.grid.actions)
    where
      by : (p.line < is.grid.actions) ⊎ (is.grid.actions ≤ p.line) → is.grid.actions ≤ p.line
      by (inl low) =
          absurd (subst (λ ls. IsIn r (siblings (Some p.line) (p.depth + 1) (with_bar p.above p.is_last) ls)) (no_children caption picture layout is pic p.line low) i)
      by (inr high) = high

  -- where the edge to a child begins
  pub child_start : (p r : Row) → IsIn r (child_rows (children_of picture) p) → (edge_to r).from_x ≡ is.grid.left p.depth + is.grid.width p.line
  child_start p r i =
      let depth = child_depth (children_of picture) p r i in
      let up : r.depth - 1 ≡ p.depth = omega arith in
      ap (start layout.problem is.grid r.depth) (child_parent (children_of picture) p r i) ∙ ap (λ d. is.grid.left d + is.grid.width p.line) up

  pub child_middle : (p r : Row) → IsIn r (child_rows (children_of picture) p) → (edge_to r).from_y ≡ mid caption picture layout is pic p
  child_middle p r i = ap (start_middle layout.problem is.grid) (child_parent (children_of picture) p r i)

  -- where an edge ends, at the column of a task or that of the actions
  pub end_task : (r : Row) → is.grid.actions ≤ r.line → (edge_to r).to_x ≡ is.grid.left r.depth
  end_task r high = (spot_task caption picture layout is pic r high).end_is

  pub end_action : (r : Row) → r.line < is.grid.actions → (edge_to r).to_x ≡ is.grid.last
  end_action r low = (spot_action caption picture layout is pic r low).end_is

  -- ## Right of a box, left of it, above it or below it

  -- an edge that ends before a box
  ends_left : (e : Edge) (r : Row) → e.from_x + 34 ≤ (box is.grid r).x → e.to_x ≤ (box is.grid r).x → IsClear e (box is.grid r)
  ends_left e r bend end = record { bends = is_left bend; runs = is_left (omega arith) }

  -- one that begins behind it
  begins_right : (e : Edge) (r : Row) → (box is.grid r).x + (box is.grid r).width ≤ e.from_x → IsClear e (box is.grid r)
  begins_right e r far = record { bends = is_right far; runs = is_right (omega arith) }

  -- the straight part to an action is far from a task
  runs_far : (r s : Row) → IsIn r (rows_of picture) → IsIn s (rows_of picture) → is.grid.actions ≤ s.line → Far caption picture layout is pic r s → AreApart (line_area (edge_to r)) (box is.grid s)
  runs_far r s i j b far =
      let q = spot_task caption picture layout is pic s b in
      let qy = q.y_is in
      let qh = q.height_is in
      let rl = mid_low caption picture layout is pic r i in
      let sl = mid_low caption picture layout is pic s j in
      elim far [
        | inl up ↦ is_above (omega arith)
        | inr down ↦ is_below (omega arith)
      ]

  -- ## From the problem

  module _ (r s : Row) (i : IsIn r (rows_of picture)) (j : IsIn s (rows_of picture)) (other : r.line ≢ s.line) (own : IsIn r (root_rows picture.roots.items)) where
    root_start : (edge_to r).from_x + 34 ≡ is.grid.left 0
    root_start =
        let first_is = first_left caption picture layout is pic in
        let at = ap (start layout.problem is.grid r.depth) (root_parent None 0 [] picture.roots.items r own) in
        omega arith

    root_bends : (edge_to r).from_x + 34 ≤ (box is.grid s).x
    root_bends = let at = root_start in let bound = left_bound caption picture layout is pic s j in omega arith

    root_clear : IsClear (edge_to r) (box is.grid s)
    root_clear = by (cases_lt r.line is.grid.actions) (cases_lt s.line is.grid.actions)
      where
        by : (r.line < is.grid.actions) ⊎ (is.grid.actions ≤ r.line) → (s.line < is.grid.actions) ⊎ (is.grid.actions ≤ s.line) → IsClear (edge_to r) (box is.grid s)
        by (inr a) b =
            let zero_depth = ap is.grid.left (root_depth None [] picture.roots.items r own) in
            let end = end_task r a in
            let bound = left_bound caption picture layout is pic s j in
            ends_left (edge_to r) s root_bends (omega arith)
        by (inl a) (inl b) =
            let end = end_action r a in let x = (spot_action caption picture layout is pic s b).x_is in ends_left (edge_to r) s root_bends (omega arith)
        by (inl a) (inr b) =
            let depth = root_depth None [] picture.roots.items r own in
            record {
              bends = is_left root_bends;
              runs = runs_far r s i j b (leaf_far caption picture layout is pic r s i j other (no_children caption picture layout is pic r.line a) (omega arith));
            }

  -- ## From a parent

  module _ (p r : Row) (k : IsIn p (rows_of picture)) (i : IsIn r (rows_of picture)) (own : IsIn r (child_rows (children_of picture) p)) where
    parent_high : is.grid.actions ≤ p.line
    parent_high = parent_task p r own

    -- the bend ends before the next column
    next_column : (edge_to r).from_x + 34 ≤ is.grid.left (p.depth + 1)
    next_column = let at = child_start p r own in let next = after_task caption picture is.grid is.is_grid p k parent_high in omega arith

    pub before_actions : (edge_to r).from_x + 34 ≤ is.grid.last
    before_actions = let at = child_start p r own in let next = task_before_last caption picture is.grid is.is_grid p k parent_high in omega arith

    end_before_last : (edge_to r).to_x ≤ is.grid.last
    end_before_last =
        elim (cases_lt r.line is.grid.actions) [
          | inl a ↦ (let end = end_action r a in omega arith)
          | inr a ↦ (let end = end_task r a in
              let column = task_column is.grid.actions (rows_of picture) r i a in
              let last = before_last caption picture is.grid is.is_grid r.depth (omega arith) in
              omega arith)
        ]

    module _ (s : Row) (j : IsIn s (rows_of picture)) (other : r.line ≢ s.line) (apart : s.line ≢ p.line) where
      -- an action
      past_action : s.line < is.grid.actions → IsClear (edge_to r) (box is.grid s)
      past_action b =
          let x = (spot_action caption picture layout is pic s b).x_is in
          let bend = before_actions in
          let end = end_before_last in
          ends_left (edge_to r) s (omega arith) (omega arith)

      -- a task in an earlier column
      past_earlier : is.grid.actions ≤ s.line → s.depth < p.depth → IsClear (edge_to r) (box is.grid s)
      past_earlier b less =
          let q = spot_task caption picture layout is pic s b in
          let x = q.x_is in
          let w = q.width_is in
          let column = task_column is.grid.actions (rows_of picture) p k parent_high in
          let before = before_column caption picture is.grid is.is_grid s p.depth j b less (omega arith) in
          let at = child_start p r own in
          begins_right (edge_to r) s (omega arith)

      -- a task in a later one
      past_later : is.grid.actions ≤ s.line → p.depth < s.depth → IsClear (edge_to r) (box is.grid s)
      past_later b more = by (cases_lt r.line is.grid.actions)
        where
          bend : (edge_to r).from_x + 34 ≤ (box is.grid s).x
          bend =
              let x = (spot_task caption picture layout is pic s b).x_is in
              let column = task_column is.grid.actions (rows_of picture) s j b in
              let next = ordered caption picture is.grid is.is_grid (p.depth + 1) s.depth (omega arith) (omega arith) in
              let at = next_column in
              omega arith

          by : (r.line < is.grid.actions) ⊎ (is.grid.actions ≤ r.line) → IsClear (edge_to r) (box is.grid s)
          by (inl a) =
              let depth = child_depth (children_of picture) p r own in
              record {
                bends = is_left bend;
                runs = runs_far r s i j b (leaf_far caption picture layout is pic r s i j other (no_children caption picture layout is pic r.line a) (omega arith));
              }
          by (inr a) =
              let x = (spot_task caption picture layout is pic s b).x_is in
              let depth = child_depth (children_of picture) p r own in
              let column = task_column is.grid.actions (rows_of picture) s j b in
              let next = ordered caption picture is.grid is.is_grid r.depth s.depth (omega arith) (omega arith) in
              let end = end_task r a in
              ends_left (edge_to r) s bend (omega arith)

      -- a task in the same column, which is above all that is below the parent, or below it
      past_same : is.grid.actions ≤ s.line → s.depth ≡ p.depth → IsClear (edge_to r) (box is.grid s)
      past_same b depth =
          let block = (rows_laid caption picture layout is pic).blocks p k in
          let lies = block.inner r (rows_among (children_of picture) (child_rows (children_of picture) p) block.below block.kids r own) in
          let q = spot_task caption picture layout is pic s b in
          let qy = q.y_is in
          let qh = q.height_is in
          let from = child_middle p r own in
          let pl = block.own.low in
          let ph = block.own.high in
          let rl = lies.low in
          let rh = lies.high in
          let low = mid_low caption picture layout is pic s j in
          elim (beside_far caption picture layout is pic p s block.below block.from block.to (block.others s j) (λ same. apart (ap (λ (x : Row). x.line) same))
          (λ below. (let d = block.deeper s below in absurd (omega arith))) (λ less. absurd (omega arith))) [
            | inl up ↦ record { bends = is_below (omega arith); runs = is_below (omega arith) }
            | inr down ↦ record { bends = is_above (omega arith); runs = is_above (omega arith) }
          ]

      child_clear : IsClear (edge_to r) (box is.grid s)
      child_clear = by (cases_lt s.line is.grid.actions) (cases_lt s.depth p.depth) (cases_lt p.depth s.depth)
        where
          by : (s.line < is.grid.actions) ⊎ (is.grid.actions ≤ s.line) → (s.depth < p.depth) ⊎ (p.depth ≤ s.depth) → (p.depth < s.depth) ⊎ (s.depth ≤ p.depth)
              → IsClear (edge_to r) (box is.grid s)
          by (inl b) d e = past_action b
          by (inr b) (inl less) e = past_earlier b less
          by (inr b) (inr d) (inl more) = past_later b more
          by (inr b) (inr d) (inr e) = past_same b (omega arith)

    -- the box of the problem
    past_problem : IsClear (edge_to r) layout.problem
    past_problem =
        let first_is = first_left caption picture layout is pic in
        let at = child_start p r own in
        let column = task_column is.grid.actions (rows_of picture) p k parent_high in
        let next = ordered caption picture is.grid is.is_grid 0 p.depth (omega arith) (omega arith) in
        record { bends = is_right (omega arith); runs = is_right (omega arith) }

  -- ## Any edge

  parent_of : (r : Row) → IsIn r (rows_of picture) → HasParent (children_of picture) (root_rows picture.roots.items) (rows_of picture) r
  parent_of r i = has_parent (children_of picture) (root_rows picture.roots.items) (rows_of picture) pic.drawing.preorder r i

  line_clear : (r s : Row) → IsIn r (rows_of picture) → IsIn s (rows_of picture) → r.line ≢ s.line → r.parent ≢ Some s.line → IsClear (edge_to r) (box is.grid s)
  line_clear r s i j other apart = by (parent_of r i)
    where
      by : HasParent (children_of picture) (root_rows picture.roots.items) (rows_of picture) r → IsClear (edge_to r) (box is.grid s)
      by (first own) = root_clear r s i j other own
      by (child p k own) = child_clear p r k i own s j other (λ same. apart (child_parent (children_of picture) p r own ∙ ap Some (sym same)))

  problem_clear : (r : Row) → IsIn r (rows_of picture) → r.parent ≢ None → IsClear (edge_to r) layout.problem
  problem_clear r i apart = by (parent_of r i)
    where
      by : HasParent (children_of picture) (root_rows picture.roots.items) (rows_of picture) r → IsClear (edge_to r) layout.problem
      by (first own) = absurd (apart (root_parent None 0 [] picture.roots.items r own))
      by (child p k own) = past_problem p r k i own

  pub no_crossing : HasNoCrossing caption picture layout is
  no_crossing = record { of_lines = line_clear; of_problem = problem_clear }
