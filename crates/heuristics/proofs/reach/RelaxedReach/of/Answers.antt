use Rattle.heuristics.proofs.CheckedReach.{checked_reach, starts_reached}
use Rattle.heuristics.proofs.reach.RelaxedReach.of.Goals as goal

pub returns-then-is_right-clause-reach : goal.returns-then-is_right-clause-reach
returns-then-is_right-clause-reach c = λ graph.
    checked_reach c.args.task.now c.in_ok-reach.reach c.args.graph.now graph c.in_ok-reach.ensures (c.in_ok-is_right.ensures c.if-is_right.true)

pub returns-then-is_right-clause-starts : goal.returns-then-is_right-clause-starts
returns-then-is_right-clause-starts c =
    let checked = c.in_ok-is_right.ensures c.if-is_right.true in
    starts_reached c.args.task.now c.in_ok-reach.reach checked.first checked.starts
