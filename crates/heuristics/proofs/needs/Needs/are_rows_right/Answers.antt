use Rattle.std.proofs.Common.{◌≡◌, All, subst, true}
use Rattle.task_graph.specs.Graph.{is_task_listed}
use Rattle.heuristics.proofs.needs.Needs.are_rows_right.Goals as goal

pub returns : goal.returns
returns c = λ passes. record {
  tasks = subst (All (λ h. is_task_listed c.args.graph.now h ≡ true)) c.as_slice.ensures.keys (c.in_ok-are_listed.ensures c.if-not-are_listed.false);
  leaves = c.in_ok-are_leaves_right.ensures passes;
  allowed = c.are_allowed.ensures c.if-not-are_allowed.false;
}
