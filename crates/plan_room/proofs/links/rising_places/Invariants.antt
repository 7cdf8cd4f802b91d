use Rattle.std.proofs.Common.{◌≡◌, ◌≤◌, length}
use Rattle.plan_room.specs.Links.{AreRising, task_at}
use Rattle.plan_room.proofs.links.rising_places.Given as goal

abbrev pub invariant-loop-place : goal.invariant-loop-place
invariant-loop-place g l = record {
  low : l.place ≤ length l.children;
  size : length l.rising.items ≡ length l.children;
  rise : AreRising (task_at (g.L.PlanLines.lines l.lines) l.children) l.children (g.L.PlanLines.lines l.lines).actions l.place l.rising.items;
}

abbrev pub decreases-loop-place : goal.decreases-loop-place
decreases-loop-place g l = l.place
