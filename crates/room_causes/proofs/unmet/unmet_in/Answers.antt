use Rattle.std.proofs.Common.{◌∙◌}
use Rattle.room_causes.proofs.Causes.{unmet_made}
use Rattle.room_causes.proofs.unmet.unmet_in.Goals as goal

pub returns : goal.returns
returns g c =
    unmet_made (g.L.PlanLines.lines c.args.lines.now) c.args.instance.now c.args.from c.args.until c.in-Some.literals.now c.in_ok-literals.literals c.in_ok-values.values c.in_ok-literal.literal c.next_gap.result
    (c.in_ok-values.ensures ∙ c.values.ensures) c.in-Some.ensures c.in_ok-literals.ensures.cases c.next_gap.ensures c.if-is_some.ensures c.in_ok-literal.ensures
