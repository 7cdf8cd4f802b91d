use Rattle.std.proofs.Common.{subst, sym}
use Rattle.hddl_meaning.specs.Mentions.{IsIn}
use Rattle.pair_messages.proofs.asked.add_written.Goals as goal

pub loop-ordering-preserved : goal.loop-ordering-preserved
loop-ordering-preserved c = λ numbered old.
    let o = c.ordering-item.result in
    let among = subst (λ xs. IsIn o xs) c.as_slice-ordering-items.ensures (c.loop-ordering.ordering-index, c.loop-ordering-test.true, sym c.ordering-item.is) in
    c.in_ok-add_asked.ensures c.args.network.now numbered among (c.loop-ordering.invariant numbered old)
