use Rattle.diagnostics.proofs.Joins.{folded_next}
use Rattle.diagnostics.proofs.groups.groups_of.Goals as goal

pub loop-index-preserved : goal.loop-index-preserved
loop-index-preserved c = (c.in_ok-join.ensures.said, folded_next c.args.diagnostics.now c.loop-index.index c.loop-index-test.true _ _ c.loop-index.invariant.1 c.in_ok-join.ensures.joined)
