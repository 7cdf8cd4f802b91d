use Rattle.std.proofs.Common.{◌≡◌, All, subst, true}
use Rattle.task_graph.specs.Graph.{is_task_listed}
use Rattle.heuristics.proofs.reach.RelaxedReach.are_tasks_right.Goals as goal

pub returns : goal.returns
returns c = λ passes. record {
  known = subst (All (λ h. is_task_listed c.args.graph.now h ≡ true)) c.as_slice.ensures.keys (c.in_ok-are_known.ensures c.if-not-are_known.false);
  blocked = subst (All (λ h. is_task_listed c.args.graph.now h ≡ true)) c.as_slice-2.ensures.keys (c.in_ok-are_blocked.ensures c.if-not-are_blocked.false);
  instances = c.are_instances_right.ensures passes;
}
