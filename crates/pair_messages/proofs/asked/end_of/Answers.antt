use Rattle.pair_messages.proofs.Cycles.{leads_further}
use Rattle.pair_messages.proofs.asked.end_of.Goals as goal

pub loop-pair-preserved : goal.loop-pair-preserved
loop-pair-preserved c =
    leads_further c.args.first c.args.pairs.now c.loop-pair.pair-index c.loop-pair.last c.pair-item.result c.loop-pair-test.true c.pair-item.is
    c.loop-pair.invariant c.if-pair-last.false
