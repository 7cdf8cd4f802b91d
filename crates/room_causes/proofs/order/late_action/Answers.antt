use Rattle.std.proofs.Common.{subst}
use Rattle.room_causes.specs.Nodes.{IsJustBefore, IsSpan}
use Rattle.room_causes.proofs.order.late_action.Goals as goal

pub returns-in-None : goal.returns-in-None
returns-in-None g c action just =
    let l = g.L.PlanLines.lines c.args.lines.now in
    let none = subst (IsSpan l c.in-Line.line) c.in-None.is c.in_ok-span.ensures in
    none action (subst (λ node. IsJustBefore l node c.args.gap action) c.in-Line.is just).0.0
