use Rattle.std.proofs.Common.{subst}
use Rattle.room_causes.specs.Nodes.{IsSpan}
use Rattle.room_causes.proofs.order.early_action.Goals as goal

pub returns-in-None : goal.returns-in-None
returns-in-None g c action has =
    let l = g.L.PlanLines.lines c.args.lines.now in
    let none = subst (IsSpan l c.args.line) c.in-None.is c.in_ok-span.ensures in
    absurd (none action has)
