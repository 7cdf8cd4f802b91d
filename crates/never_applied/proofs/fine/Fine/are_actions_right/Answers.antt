use Rattle.never_applied.specs.Fine.{IsActionRight}
use Rattle.heuristics.proofs.ReachLists.{all_more, all_taken}
use Rattle.never_applied.proofs.fine.Fine.are_actions_right.Goals as goal

pub loop-goal-preserved : goal.loop-goal-preserved
loop-goal-preserved c =
    all_more (IsActionRight c.args.task.now c.args.self.now) c.args.goals.now c.loop-goal.goal-index c.goal-item.result c.loop-goal-test.true c.goal-item.is c.loop-goal.invariant
    (c.in_ok-is_right.ensures c.if-not-is_right.false)

pub returns : goal.returns
returns c = λ _. all_taken (IsActionRight c.args.task.now c.args.self.now) c.args.goals.now c.loop-goal.goal-index c.loop-goal-test.false c.loop-goal.invariant
