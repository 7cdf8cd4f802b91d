use Rattle.std.proofs.Common.{◌≡◌, ◌∙◌, sym, true}
use Rattle.task_graph.specs.Graph.{is_task_listed}
use Rattle.heuristics.proofs.ReachLists.{all_more}
use Rattle.heuristics.proofs.reach_check.are_listed.Goals as goal

pub loop-goal-preserved : goal.loop-goal-preserved
loop-goal-preserved c =
    all_more (λ h. is_task_listed c.args.graph.now h ≡ true) c.args.goals.now c.loop-goal.goal-index c.goal-item.result c.loop-goal-test.true c.goal-item.is c.loop-goal.invariant
    (sym c.in_ok-is_listed.ensures ∙ c.if-not-is_listed.false)
