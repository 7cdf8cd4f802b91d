use Rattle.call_proof.proofs.Ruled.{one_more_into}
use Rattle.call_proof.proofs.rules.are_instances.Goals as goal

pub loop-k-preserved : goal.loop-k-preserved
loop-k-preserved c =
    one_more_into c.args.state c.args.rules.now c.args.lists.now c.loop-k.k (record { state = 0; blocks = 0 }) 0 c.loop-k-test.true
    c.if-rules-lists.false c.if-rules-k.false c.if-rules-k-2.false c.loop-k.invariant
