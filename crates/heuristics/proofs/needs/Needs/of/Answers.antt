use Rattle.heuristics.proofs.CheckedNeeds.{checked_outlook, no_rows_right}
use Rattle.heuristics.proofs.needs.Needs.of.Goals as goal

pub returns-then-are_right : goal.returns-then-are_right
returns-then-are_right c = λ graph.
    checked_outlook c.args.task.now c.in_ok-needs.needs c.args.graph.now graph (record { rows = c.in_ok-are_right.ensures c.if-are_right.true; barred = c.in_ok-needs.ensures })

pub returns : goal.returns
returns c = λ graph.
    let n = c.in_ok-bare.bare in
    checked_outlook c.args.task.now n c.args.graph.now graph
    (record { rows = no_rows_right n c.args.graph.now c.in_ok-bare.ensures.tasks c.in_ok-bare.ensures.leaves; barred = c.in_ok-bare.ensures.barred })
