use Rattle.std.proofs.Common.{Some, None, subst}
use Rattle.plan_room.specs.Lines.{IsNextGap}
use Rattle.plan_room.proofs.Suited.{step_first, step_never}
use Rattle.plan_room.proofs.below.literals_finish.Goals as goal

pub returns-in-Some-clause-known : goal.returns-in-Some-clause-known
returns-in-Some-clause-known g c =
    let l = g.L.PlanLines.lines c.args.lines.now in
    step_first l.states l.actions c.args.start c.in-Some.gap c.args.literals.now
    (subst (λ n. IsNextGap l.states n c.args.literals.now c.args.start (Some c.in-Some.gap)) c.actions.ensures c.in-Some.ensures)

pub returns-in-None-clause-known : goal.returns-in-None-clause-known
returns-in-None-clause-known g c =
    let l = g.L.PlanLines.lines c.args.lines.now in
    step_never l.states l.actions c.args.start c.args.literals.now
    (subst (λ n. IsNextGap l.states n c.args.literals.now c.args.start None) c.actions.ensures c.in-None.ensures)
