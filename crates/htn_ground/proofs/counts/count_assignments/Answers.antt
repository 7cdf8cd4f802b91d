use Rattle.htn_ground.proofs.Counting.{product_more}
use Rattle.htn_ground.proofs.counts.count_assignments.Goals as goal

pub loop-domain-preserved : goal.loop-domain-preserved
loop-domain-preserved c =
    product_more c.args.domains.now c.loop-domain.domain-index c.loop-domain.count c.len.result c.in_ok-count.count c.domain-item.result
    c.loop-domain-test.true c.domain-item.is c.len.ensures c.in_ok-count.ensures.1 c.loop-domain.invariant
