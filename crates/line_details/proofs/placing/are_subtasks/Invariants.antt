use Rattle.std.proofs.Common.{◌≡◌, get_or, Some, false}
use Rattle.htn_ground.specs.Views.{children_of}
use Rattle.plan_room.specs.Seats.{is_step_at}
use Rattle.line_details.proofs.Seen.{NodesBefore}
use Rattle.line_details.proofs.placing.are_subtasks.Given as goal

abbrev pub invariant-loop-place : goal.invariant-loop-place
invariant-loop-place l = NodesBefore (λ a node. (get_or l.marks a false ≡ is_step_at (Some node)) → ⊥) (children_of l.nodes) l.place
