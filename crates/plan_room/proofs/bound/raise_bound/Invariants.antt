use Rattle.std.proofs.Common.{◌-◌, length}
use Rattle.plan_room.specs.Bound.{IsLower}
use Rattle.plan_room.proofs.bound.raise_bound.Given as goal

abbrev pub invariant-loop-bound : goal.invariant-loop-bound
invariant-loop-bound g l = IsLower (g.L.PlanLines.lines l.lines) l.children l.gap l.bound.end

abbrev pub decreases-loop-bound : goal.decreases-loop-bound
decreases-loop-bound g l = length l.children - l.bound.seen
