-- Where the boxes and the edges of a picture are.
use Rattle.std.specs.Prelude.{◌≡◌, ℕ, ◌+◌, ◌-◌, ◌*◌, nat_lt, max, if◌then◌else◌, List, [], ◌∷◌, map, Option, Some, None}
use Rattle.plan_picture.specs.declared.picture.Picture.{Picture}
use Rattle.plan_picture.specs.Rows.{Row}
use Rattle.picture_text.specs.declared.caption.Caption.{Caption}
use Rattle.picture_svg.specs.declared.layout.Area.{Area}
use Rattle.picture_svg.specs.declared.layout.Edge.{Edge}
use Rattle.picture_svg.specs.declared.layout.Layout.{Layout}
use Rattle.picture_svg.specs.Widths.{problem_width}
use Rattle.picture_svg.specs.Grid.{Grid, IsGridOf, rows_of, children_of, middle_of, place_count}

-- the box of a row: of an action in the last column, and of a task in the column of its depth
abbrev pub box : Grid → Row → Area
box grid row =
    if nat_lt row.line grid.actions then record { x = grid.last; y = grid.middle row.line - 12; width = grid.width row.line; height = 24 }
    else record { x = grid.left row.depth; y = grid.middle row.line - 17; width = grid.width row.line; height = 34 }

-- the box of the problem, where its middle is
abbrev pub problem_box : Caption → ℕ → Area
problem_box caption middle = record { x = 16; y = middle - 17; width = problem_width caption; height = 34 }

-- where the edge to a line begins, which is below some lines: at the right side of its parent's box, or of the problem's
abbrev pub start : Area → Grid → ℕ → Option ℕ → ℕ
start problem grid depth None = problem.x + problem.width
start problem grid depth (Some parent) = grid.left (depth - 1) + grid.width parent

-- the distance from the top at which the edge to a line begins
abbrev pub start_middle : Area → Grid → Option ℕ → ℕ
start_middle problem grid None = problem.y + 17
start_middle problem grid (Some parent) = grid.middle parent

-- the edge to a row's box: from there to the middle of its left side
abbrev pub edge : Area → Grid → Row → Edge
edge problem grid row =
    record {
      from_x = start problem grid row.depth row.parent;
      from_y = start_middle problem grid row.parent;
      to_x = if nat_lt row.line grid.actions then grid.last else grid.left row.depth;
      to_y = grid.middle row.line;
    }

-- how far to the right boxes reach
abbrev pub reach : List Area → ℕ
reach [] = 0
reach (area ∷ areas) = max (area.x + area.width) (reach areas)

-- The boxes and the edges, row by row, and the width and the height of the whole.
pub record IsLayoutOf (caption : Caption) (picture : Picture) (layout : Layout) : Type 0 where
  pub grid : Grid
  pub is_grid : IsGridOf caption picture grid
  pub problem : layout.problem ≡ problem_box caption (middle_of grid.middle 0 picture.roots.items)
  pub boxes : layout.boxes.items ≡ map (box grid) (rows_of picture)
  pub edges : layout.edges.items ≡ map (edge layout.problem grid) (rows_of picture)
  pub width : layout.width ≡ max (layout.problem.x + layout.problem.width) (reach layout.boxes.items) + 16
  pub height : layout.height ≡ 24 + 38 * max 1 (place_count (children_of picture) (rows_of picture))
