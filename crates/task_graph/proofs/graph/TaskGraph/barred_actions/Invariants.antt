use Rattle.std.proofs.Common.{◌≡◌, ◌<◌, ℕ, Some, true}
use Rattle.std.specs.List.{All, list_any}
use Rattle.htn_model.specs.Problem.{GroundTask, ground_task_eq}
use Rattle.task_graph.specs.Graph.{barred_action_at}
use Rattle.task_graph.proofs.graph.TaskGraph.barred_actions.Given as goal

abbrev pub invariant-loop-place : goal.invariant-loop-place
invariant-loop-place l = record {
  right : All (λ h. (id : ℕ) × (barred_action_at l.self id ≡ Some h)) l.barred.keys;
  whole : (id : ℕ) (h : GroundTask) → id < l.place → barred_action_at l.self id ≡ Some h → list_any (ground_task_eq h) l.barred.keys ≡ true;
}
