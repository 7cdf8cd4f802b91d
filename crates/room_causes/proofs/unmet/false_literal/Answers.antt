use Rattle.room_causes.proofs.Ranges.{false_there}
use Rattle.room_causes.proofs.unmet.false_literal.Goals as goal

pub returns-then-is_none : goal.returns-then-is_none
returns-then-is_none g c =
    false_there (g.L.PlanLines.lines c.args.lines.now) c.as_slice-literal-items.result.now c.args.literals.now c.in_ok-single.single c.loop-place.place c.args.from c.args.until c.literal-item.result c.next_gap.result
    c.as_slice-literal-items.ensures c.loop-place-test.true c.literal-item.is c.in_ok-single.ensures c.next_gap.ensures c.if-is_none.ensures
