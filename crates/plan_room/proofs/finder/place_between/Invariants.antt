use Rattle.plan_room.specs.Memo.{IsMemo}
use Rattle.plan_room.proofs.finder.place_between.Given as goal

abbrev pub invariant-tries : goal.invariant-tries
invariant-tries g l = IsMemo (g.L.PlanLines.lines l.lines) l.memo
