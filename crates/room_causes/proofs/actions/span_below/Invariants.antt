use Rattle.std.proofs.Common.{ℕ}
use Rattle.htn_model.specs.PlanFile.{IsIn}
use Rattle.plan_room.specs.Frames.{plans_size}
use Rattle.plan_room.specs.Lines.{plans_of}
use Rattle.room_causes.proofs.Below.{IsHere, IsSeen}
use Rattle.room_causes.proofs.actions.span_below.Given as goal

abbrev pub invariant-loop-next : goal.invariant-loop-next
invariant-loop-next g l = record {
  here : (x : ℕ) → IsIn x l.waiting.items → IsHere (g.L.PlanLines.lines l.lines) l.line x;
  seen : IsSeen (g.L.PlanLines.lines l.lines) l.line l.waiting.items l.span;
}

abbrev pub decreases-loop-next : goal.decreases-loop-next
decreases-loop-next g l = plans_size (plans_of (g.L.PlanLines.lines l.lines).plan_of l.waiting.items)
