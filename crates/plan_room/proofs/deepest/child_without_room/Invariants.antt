use Rattle.std.proofs.Common.{ℕ, ◌<◌, get_or}
use Rattle.plan_room.specs.Deepest.{HasOwnRoom}
use Rattle.plan_room.specs.Memo.{IsMemo}
use Rattle.plan_room.specs.Seats.{children_of}
use Rattle.plan_room.proofs.deepest.child_without_room.Given as goal

abbrev pub invariant-loop-child : goal.invariant-loop-child
invariant-loop-child g l = record {
  memo : IsMemo (g.L.PlanLines.lines l.lines) l.memo;
  before : (k : ℕ) → k < l.child-index → HasOwnRoom (g.L.PlanLines.lines l.lines) (get_or (children_of (g.L.PlanLines.lines l.lines) l.line) k 0);
}
