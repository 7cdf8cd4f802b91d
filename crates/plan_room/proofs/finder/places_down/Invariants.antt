use Rattle.plan_room.specs.Memo.{IsMemo}
use Rattle.plan_room.proofs.finder.places_down.Given as goal

abbrev pub invariant-lines : goal.invariant-lines
invariant-lines g l = IsMemo (g.L.PlanLines.lines l.lines) l.memo
