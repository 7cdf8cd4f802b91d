use Rattle.std.proofs.Common.{subst, sym}
use Rattle.plan_room.specs.Placing.{IsFinish}
use Rattle.plan_room.specs.Seats.{LineFits}
use Rattle.plan_room.proofs.Suited.{line_known}
use Rattle.plan_room.proofs.below.line_finish.Goals as goal

pub returns-then-actions-line-clause-known : goal.returns-then-actions-line-clause-known
returns-then-actions-line-clause-known g c =
    let l = g.L.PlanLines.lines c.args.lines.now in
    line_known l c.args.line c.args.start c.finish.result c.requires.low
    (subst (IsFinish (LineFits l c.args.line c.args.start) l.actions) (sym c.finish.ensures) (c.requires.memo (record { line = c.args.line; gap = c.args.start })))
