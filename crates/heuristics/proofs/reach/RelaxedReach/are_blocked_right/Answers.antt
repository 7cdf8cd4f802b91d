use Rattle.heuristics.specs.CheckedReach.{IsBlockedRight}
use Rattle.heuristics.proofs.ReachLists.{all_more, all_taken}
use Rattle.heuristics.proofs.reach.RelaxedReach.are_blocked_right.Goals as goal

pub loop-goal-preserved : goal.loop-goal-preserved
loop-goal-preserved c = λ t graph.
    all_more (IsBlockedRight t c.args.self.now) c.args.goals.now c.loop-goal.goal-index c.goal-item.result c.loop-goal-test.true c.goal-item.is (c.loop-goal.invariant t graph)
    (c.in_ok-is_right.ensures c.if-not-is_right.false t graph)

pub returns : goal.returns
returns c = λ _ t graph. all_taken (IsBlockedRight t c.args.self.now) c.args.goals.now c.loop-goal.goal-index c.loop-goal-test.false (c.loop-goal.invariant t graph)
