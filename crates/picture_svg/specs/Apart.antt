-- Boxes that don't overlap, and edges that cross none but those that they join.
use Rattle.std.specs.Prelude.{◌≡◌, ◌≢◌, ℕ, ◌+◌, ◌-◌, ◌≤◌, Some, None, min, max}
use Rattle.htn_model.specs.PlanFile.{IsIn}
use Rattle.plan_picture.specs.declared.picture.Picture.{Picture}
use Rattle.plan_picture.specs.Picture.{IsPictureOf}
use Rattle.plan_picture.specs.Rows.{Row}
use Rattle.picture_text.specs.declared.caption.Caption.{Caption}
use Rattle.picture_svg.specs.declared.layout.Area.{Area}
use Rattle.picture_svg.specs.declared.layout.Edge.{Edge}
use Rattle.picture_svg.specs.declared.layout.Layout.{Layout}
use Rattle.picture_svg.specs.Grid.{rows_of}
use Rattle.picture_svg.specs.Layout.{IsLayoutOf, box, edge}

-- one is left of the other, or above it
pub data AreApart (a b : Area) : Type 0 where
  is_left : a.x + a.width ≤ b.x → AreApart a b
  is_right : b.x + b.width ≤ a.x → AreApart a b
  is_above : a.y + a.height ≤ b.y → AreApart a b
  is_below : b.y + b.height ≤ a.y → AreApart a b

-- where an edge bends
abbrev pub bend_area : Edge → Area
bend_area e = record { x = e.from_x; y = min e.from_y e.to_y; width = 34; height = max e.from_y e.to_y - min e.from_y e.to_y }

-- where it runs straight
abbrev pub line_area : Edge → Area
line_area e = record { x = e.from_x + 34; y = e.to_y; width = e.to_x - (e.from_x + 34); height = 0 }

-- an edge doesn't cross a box
pub record IsClear (e : Edge) (a : Area) : Type 0 where
  pub bends : AreApart (bend_area e) a
  pub runs : AreApart (line_area e) a

-- The boxes of two lines don't overlap, nor does one that of the problem.
pub record HasNoOverlap (caption : Caption) (picture : Picture) (layout : Layout) (is : IsLayoutOf caption picture layout) : Type 0 where
  pub of_lines : (r s : Row) → IsIn r (rows_of picture) → IsIn s (rows_of picture) → r.line ≢ s.line → AreApart (box is.grid r) (box is.grid s)
  pub of_problem : (r : Row) → IsIn r (rows_of picture) → AreApart layout.problem (box is.grid r)

-- The edge to a line doesn't cross the box of a line but its own and its parent's, nor that of the problem, if it has a
-- parent.
pub record HasNoCrossing (caption : Caption) (picture : Picture) (layout : Layout) (is : IsLayoutOf caption picture layout) : Type 0 where
  pub of_lines : (r s : Row) → IsIn r (rows_of picture) → IsIn s (rows_of picture) → r.line ≢ s.line → r.parent ≢ Some s.line → IsClear (edge layout.problem is.grid r) (box is.grid s)
  pub of_problem : (r : Row) → IsIn r (rows_of picture) → r.parent ≢ None → IsClear (edge layout.problem is.grid r) layout.problem

-- an edge leads from the middle of a box's right side to the middle of another's left side, after it has bent
pub record Joins (e : Edge) (a b : Area) : Type 0 where
  pub begins : e.from_x ≡ a.x + a.width
  pub begins_middle : e.from_y ≡ a.y + 17
  pub middle_of_first : a.height ≡ 34
  pub room : e.from_x + 34 ≤ e.to_x
  pub ends : e.to_x ≡ b.x
  pub ends_middle : e.to_y + e.to_y ≡ b.y + (b.y + b.height)

-- The edge to a line comes from its parent, or from the problem.
pub record IsJoined (caption : Caption) (picture : Picture) (layout : Layout) (is : IsLayoutOf caption picture layout) : Type 0 where
  pub of_roots : (r : Row) → IsIn r (rows_of picture) → r.parent ≡ None → Joins (edge layout.problem is.grid r) layout.problem (box is.grid r)
  pub of_others : (r s : Row) → IsIn r (rows_of picture) → IsIn s (rows_of picture) → r.parent ≡ Some s.line → Joins (edge layout.problem is.grid r) (box is.grid s) (box is.grid r)

-- a box lies within some width and height
pub record IsWithin (width height : ℕ) (a : Area) : Type 0 where
  pub wide : a.x + a.width ≤ width
  pub high : a.y + a.height ≤ height

-- All boxes lie within the whole.
pub record IsAllWithin (caption : Caption) (picture : Picture) (layout : Layout) (is : IsLayoutOf caption picture layout) : Type 0 where
  pub of_lines : (r : Row) → IsIn r (rows_of picture) → IsWithin layout.width layout.height (box is.grid r)
  pub of_problem : IsWithin layout.width layout.height layout.problem

-- So is every layout of the picture of a plan file.
abbrev pub LayoutsAreClear : Type 0
LayoutsAreClear =
    (caption : Caption) (picture : Picture) (layout : Layout) (is : IsLayoutOf caption picture layout) → IsPictureOf picture.file.now picture
    → HasNoOverlap caption picture layout is × HasNoCrossing caption picture layout is × IsJoined caption picture layout is × IsAllWithin caption picture layout is
