use Rattle.picture_svg.specs.Layout as spec
use Rattle.picture_svg.specs.Measured.{grid_of}
use Rattle.picture_svg.proofs.Rows.{all_made}
use Rattle.picture_svg.proofs.layout.edges_of.Goals as goal

pub returns : goal.returns
returns c = all_made (spec.edge c.args.problem (grid_of c.args.measures.now)) c.args.rows.now c.loop-row.row-index c.loop-row.edges.items c.loop-row-test.false c.loop-row.invariant
