use Rattle.room_causes.proofs.conflict.conflict_of.Goals as goal

pub order_among-requires-clause-ends : goal.order_among-requires-clause-ends
order_among-requires-clause-ends g c = c.new-ends.ensures (g.L.PlanLines.lines c.args.lines.now)
