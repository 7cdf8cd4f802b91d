use Rattle.plan_room.proofs.Windowed.{HoldBefore}
use Rattle.plan_room.proofs.window.steps_hold.Given as goal

abbrev pub invariant-loop-child : goal.invariant-loop-child
invariant-loop-child g l = HoldBefore (g.L.PlanLines.lines l.lines).states l.window.first l.window.last l.instance.network.children l.child-index
