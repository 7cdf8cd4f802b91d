use Rattle.std.proofs.Common.{◌≡◌, ◌⊎◌}
use Rattle.plan_room.specs.Deepest.{HasOwnRoom, IsBelow}
use Rattle.plan_room.specs.Frames.{IsLine, line_size}
use Rattle.plan_room.specs.Memo.{IsMemo}
use Rattle.plan_room.proofs.deepest.deepest_without_room.Given as goal

abbrev pub invariant-loop-memo : goal.invariant-loop-memo
invariant-loop-memo g l = record {
  memo : IsMemo (g.L.PlanLines.lines l.lines) l.memo;
  is_line : IsLine (g.L.PlanLines.lines l.lines) l.line;
  stands : (l.line ≡ (g.L.PlanLines.lines l.lines).count) ⊎ IsBelow (g.L.PlanLines.lines l.lines) (g.L.PlanLines.lines l.lines).count l.line;
  blocked : HasOwnRoom (g.L.PlanLines.lines l.lines) l.line → ⊥;
}

abbrev pub decreases-loop-memo : goal.decreases-loop-memo
decreases-loop-memo g l = line_size (g.L.PlanLines.lines l.lines) l.line
