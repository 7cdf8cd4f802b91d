-- Edges join a line's box with its parent's, and all boxes lie within the whole.
use Rattle.std.proofs.Common.{◌≡◌, ℕ, ◌+◌, ◌*◌, ◌<◌, ◌≤◌, max, List, [], ◌∷◌, length, get_or, map, Some, None, ◌⊎◌, inl, inr, refl, sym, ap, ◌∙◌, subst, arith}
use Rattle.std.proofs.lemmas.Bool.{cases_lt}
use Rattle.htn_model.specs.PlanFile.{IsIn}
use Rattle.plan_text.proofs.Adding.{get_in}
use Rattle.plan_picture.specs.declared.picture.Picture.{Picture}
use Rattle.plan_picture.specs.Firsts.{lines_of}
use Rattle.plan_picture.specs.Picture.{IsPictureOf}
use Rattle.plan_picture.specs.Rows.{Row, child_rows, root_rows}
use Rattle.plan_picture.proofs.Ahead.{sibling_lines, are_among}
use Rattle.picture_text.specs.declared.caption.Caption.{Caption}
use Rattle.picture_svg.specs.declared.layout.Area.{Area}
use Rattle.picture_svg.specs.declared.layout.Layout.{Layout}
use Rattle.picture_svg.specs.Apart.{Joins, IsJoined, IsWithin, IsAllWithin, LayoutsAreClear}
use Rattle.picture_svg.specs.Grid.{rows_of, children_of, place_count, middle_of}
use Rattle.picture_svg.specs.Layout.{IsLayoutOf, box, edge, start, start_middle, reach}
use Rattle.picture_svg.proofs.Blocks.{HasParent, first, child, has_parent, child_depth, child_parent, root_parent, line_lies}
use Rattle.picture_svg.proofs.Crossings.{parent_task, child_start, end_task, end_action, before_actions, no_crossing}
use Rattle.picture_svg.proofs.Lefts.{after_task}
use Rattle.picture_svg.proofs.Overlaps.{no_overlap}
use Rattle.picture_svg.proofs.Pictured.{are_once}
use Rattle.picture_svg.proofs.Spots.{mid_low, rows_laid, once_row, spot_action, spot_task, first_left, left_bound}

-- a box reaches no farther than all
reach_in : (f : Row → Area) (rows : List Row) (r : Row) → IsIn r rows → (f r).x + (f r).width ≤ reach (map f rows)
reach_in f [] r i = absurd i
reach_in f (x ∷ rows) r (inl same) = let a = ap (λ y. (f y).x) same in let b = ap (λ y. (f y).width) same in omega arith
reach_in f (x ∷ rows) r (inr i) = let more = reach_in f rows r i in omega arith

module _ (caption : Caption) (picture : Picture) (layout : Layout) (is : IsLayoutOf caption picture layout) (pic : IsPictureOf picture.file.now picture) where
  -- ## Edges

  -- where an edge ends
  pub record Ending (r : Row) : Type 0 where
    pub at : (edge layout.problem is.grid r).to_x ≡ (box is.grid r).x
    pub between : (edge layout.problem is.grid r).to_y + (edge layout.problem is.grid r).to_y ≡ (box is.grid r).y + ((box is.grid r).y + (box is.grid r).height)

  ending : (r : Row) → IsIn r (rows_of picture) → Ending r
  ending r i = by (cases_lt r.line is.grid.actions)
    where
      by : (r.line < is.grid.actions) ⊎ (is.grid.actions ≤ r.line) → Ending r
      by (inl a) =
          let q = spot_action caption picture layout is pic r a in
          let y = q.y_is in
          let h = q.height_is in
          let low = mid_low caption picture layout is pic r i in
          record { at = q.end_is ∙ sym q.x_is; between = omega arith }
      by (inr a) =
          let q = spot_task caption picture layout is pic r a in
          let y = q.y_is in
          let h = q.height_is in
          let low = mid_low caption picture layout is pic r i in
          record { at = q.end_is ∙ sym q.x_is; between = omega arith }

  from_problem : (r : Row) → IsIn r (rows_of picture) → r.parent ≡ None → Joins (edge layout.problem is.grid r) layout.problem (box is.grid r)
  from_problem r i none =
      let e = ending r i in
      let at = e.at in
      let begins = ap (start layout.problem is.grid r.depth) none in
      let first_is = first_left caption picture layout is pic in
      let bound = left_bound caption picture layout is pic r i in
      record {
        begins = begins;
        begins_middle = ap (start_middle layout.problem is.grid) none;
        middle_of_first = ap (λ (z : Area). z.height) is.problem;
        room = omega arith;
        ends = e.at;
        ends_middle = e.between;
      }

  -- from the row of the parent
  from_row : (p r : Row) → IsIn p (rows_of picture) → IsIn r (rows_of picture) → IsIn r (child_rows (children_of picture) p) → r.parent ≡ Some p.line
      → Joins (edge layout.problem is.grid r) (box is.grid p) (box is.grid r)
  from_row p r k i own parent =
      let high = parent_task caption picture layout is pic p r own in
      let q = spot_task caption picture layout is pic p high in
      let x = q.x_is in
      let y = q.y_is in
      let w = q.width_is in
      let low = mid_low caption picture layout is pic p k in
      let begins = child_start caption picture layout is pic p r own in
      let middle = ap (start_middle layout.problem is.grid) parent in
      let e = ending r i in
      record {
        begins = omega arith;
        begins_middle = omega arith;
        middle_of_first = q.height_is;
        room = room;
        ends = e.at;
        ends_middle = e.between;
      }
    where
      room : (edge layout.problem is.grid r).from_x + 34 ≤ (edge layout.problem is.grid r).to_x
      room =
          elim (cases_lt r.line is.grid.actions) [
            | inl a ↦ (let end = end_action caption picture layout is pic r a in
                let last = before_actions caption picture layout is pic p r k i own in
                omega arith)
            | inr a ↦ (let end = end_task caption picture layout is pic r a in
                let begins = child_start caption picture layout is pic p r own in
                let next = after_task caption picture is.grid is.is_grid p k (parent_task caption picture layout is pic p r own) in
                let depth = child_depth (children_of picture) p r own in
                let same = ap is.grid.left depth in
                omega arith)
          ]

  from_parent : (r s : Row) → IsIn r (rows_of picture) → IsIn s (rows_of picture) → r.parent ≡ Some s.line → Joins (edge layout.problem is.grid r) (box is.grid s) (box is.grid r)
  from_parent r s i j parent = by (has_parent (children_of picture) (root_rows picture.roots.items) (rows_of picture) pic.drawing.preorder r i)
    where
      no_parent : (l : ℕ) → r.parent ≡ None → r.parent ≡ Some l → ⊥
      no_parent l e f = cc

      one_line : (k l : ℕ) → r.parent ≡ Some k → r.parent ≡ Some l → l ≡ k
      one_line k l e f = cc

      by : HasParent (children_of picture) (root_rows picture.roots.items) (rows_of picture) r → Joins (edge layout.problem is.grid r) (box is.grid s) (box is.grid r)
      by (first own) = absurd (no_parent s.line (root_parent None 0 [] picture.roots.items r own) parent)
      by (child p k own) =
          let line = one_line p.line s.line (child_parent (children_of picture) p r own) parent in
          let same = once_row (rows_of picture) s p (are_once picture pic) j k line in
          subst (λ z. Joins (edge layout.problem is.grid r) (box is.grid z) (box is.grid r)) (sym same) (from_row p r k i own (child_parent (children_of picture) p r own))

  joined : IsJoined caption picture layout is
  joined = record { of_roots = from_problem; of_others = from_parent }

  -- ## Within the whole

  line_within : (r : Row) → IsIn r (rows_of picture) → IsWithin layout.width layout.height (box is.grid r)
  line_within r i =
      let far = reach_in (box is.grid) (rows_of picture) r i in
      let all = ap reach is.boxes in
      let width = is.width in
      record { wide = omega arith; high = high }
    where
      high : (box is.grid r).y + (box is.grid r).height ≤ layout.height
      high =
          let bound = ((rows_laid caption picture layout is pic).lies r i).high in
          let height = is.height in
          elim (cases_lt r.line is.grid.actions) [
            | inl a ↦ (let y = (spot_action caption picture layout is pic r a).y_is in let h = (spot_action caption picture layout is pic r a).height_is in omega arith)
            | inr a ↦ (let y = (spot_task caption picture layout is pic r a).y_is in let h = (spot_task caption picture layout is pic r a).height_is in omega arith)
          ]

  -- the middle of the roots
  root_middle : (lines : List ℕ) → ((line : ℕ) → IsIn line lines → IsIn line (lines_of (rows_of picture)))
      → middle_of is.grid.middle 0 lines + 38 ≤ 31 + 38 * max 1 (place_count (children_of picture) (rows_of picture))
  root_middle [] all = omega arith
  root_middle (c ∷ others) all =
      let high = 0 + place_count (children_of picture) (rows_of picture) in
      let laid = rows_laid caption picture layout is pic in
      let last = get_or (c ∷ others) (length others) 0 in
      let a = (line_lies (children_of picture) is.grid.middle 0 high 0 (rows_of picture) c laid (all c (inl refl))).high in
      let b = (line_lies (children_of picture) is.grid.middle 0 high 0 (rows_of picture) last laid (all last (get_in (c ∷ others) (length others) 0 (omega arith)))).high in
      omega arith

  problem_within : IsWithin layout.width layout.height layout.problem
  problem_within =
      let width = is.width in
      let height = is.height in
      let y = ap (λ (z : Area). z.y) is.problem in
      let h = ap (λ (z : Area). z.height) is.problem in
      let bound =
      root_middle picture.roots.items
      (λ line i. are_among (children_of picture) (root_rows picture.roots.items) (rows_of picture) pic.drawing.preorder line (subst (IsIn line) (sym (sibling_lines None 0 [] picture.roots.items)) i)) in
      record { wide = omega arith; high = omega arith }

  all_within : IsAllWithin caption picture layout is
  all_within = record { of_lines = line_within; of_problem = problem_within }

pub layouts_are_clear : LayoutsAreClear
layouts_are_clear caption picture layout is pic =
    (no_overlap caption picture layout is pic, no_crossing caption picture layout is pic, joined caption picture layout is pic, all_within caption picture layout is pic)
