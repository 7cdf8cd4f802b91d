use Rattle.std.proofs.Common.{◌≤◌, length}
use Rattle.htn_model.specs.Problem.{GroundTask}
use Rattle.plan_room.specs.Links.{AreNext, IsFirstPlace, place_of, task_at}
use Rattle.plan_room.proofs.links.next_places.Given as goal

abbrev pub invariant-loop-place : goal.invariant-loop-place
invariant-loop-place g l = record {
  low : l.place ≤ length l.children;
  next : AreNext (task_at (g.L.PlanLines.lines l.lines) l.children) l.place (length l.children) l.after.items;
  first : (t : GroundTask) → IsFirstPlace (task_at (g.L.PlanLines.lines l.lines) l.children) l.place (length l.children) t (place_of l.places t);
}

abbrev pub decreases-loop-place : goal.decreases-loop-place
decreases-loop-place g l = l.place
