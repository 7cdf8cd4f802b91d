use Rattle.picture_html.proofs.Stepping.{depth_there}
use Rattle.picture_html.proofs.folds.depth_at.Goals as goal

pub returns-in-Some : goal.returns-in-Some
returns-in-Some c =
    let found = c.in-Some.ensures.lookup in depth_there c.args.rows.now c.args.place c.in-Some.row.now found.3.0 found.1
