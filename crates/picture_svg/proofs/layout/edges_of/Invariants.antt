use Rattle.std.proofs.Common.{◌≡◌, map, take}
use Rattle.plan_picture.specs.Seen.{seen}
use Rattle.picture_svg.specs.Layout as spec
use Rattle.picture_svg.specs.Measured.{grid_of}
use Rattle.picture_svg.proofs.layout.edges_of.Given as goal

-- the edges so far
abbrev pub invariant-loop-row : goal.invariant-loop-row
invariant-loop-row l = l.edges.items ≡ map (λ r. spec.edge l.problem (grid_of l.measures) (seen r)) (take l.row-index l.rows)
