-- What is measured of a picture, as a grid, and what is arranged by it.
use Rattle.std.specs.Prelude.{◌≡◌, ℕ, ◌+◌, ◌-◌, ◌*◌, max, List, length, get_or, map}
use Rattle.plan_picture.specs.Rows.{Row}
use Rattle.picture_svg.specs.declared.layout.Area.{Area}
use Rattle.picture_svg.specs.declared.layout.Layout.{Layout}
use Rattle.picture_svg.specs.declared.layout.Measures.{Measures}
use Rattle.picture_svg.specs.Grid.{Grid}
use Rattle.picture_svg.specs.Layout.{box, edge, reach}

-- the grid that is measured
abbrev pub grid_of : Measures → Grid
grid_of m =
    record {
      actions = m.actions;
      width = λ line. get_or m.widths.now line 0;
      left = λ column. get_or m.lefts.now column 0;
      last = get_or m.lefts.now (length m.lefts.now - 1) 0;
      middle = λ line. get_or m.middles.now line 0;
    }

-- what is arranged by a grid
pub record IsArranged (grid : Grid) (top : Area) (places : ℕ) (rows : List Row) (layout : Layout) : Type 0 where
  pub problem : layout.problem ≡ top
  pub boxes : layout.boxes.items ≡ map (box grid) rows
  pub edges : layout.edges.items ≡ map (edge top grid) rows
  pub width : layout.width ≡ max (top.x + top.width) (reach layout.boxes.items) + 16
  pub height : layout.height ≡ 24 + 38 * max 1 places
