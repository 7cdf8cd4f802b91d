use Rattle.plan_room.specs.Bound.{IsLower}
use Rattle.plan_room.proofs.window.least_end.Given as goal

abbrev pub invariant-loop-child : goal.invariant-loop-child
invariant-loop-child g l = IsLower (g.L.PlanLines.lines l.lines) l.children l.gap l.end
