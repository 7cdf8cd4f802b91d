use Rattle.std.proofs.Common.{◌≡◌, ◌∙◌, All, take, subst, sym, true}
use Rattle.std.proofs.lemmas.List.Elements.{All-more}
use Rattle.htn_model.specs.Problem.{GroundTask}
use Rattle.task_graph.specs.Graph.{is_task_listed}
use Rattle.heuristics.proofs.needs_of.are_listed.Goals as goal

pub loop-goal-preserved : goal.loop-goal-preserved
loop-goal-preserved c =
    All-more (λ h. is_task_listed c.args.graph.now h ≡ true) c.args.goals.now c.loop-goal.goal-index c.goal-item.result c.loop-goal-test.true c.loop-goal.invariant
    (subst (λ (h : GroundTask). is_task_listed c.args.graph.now h ≡ true) c.goal-item.is (sym c.in_ok-is_listed.ensures ∙ c.if-not-is_listed.false))
