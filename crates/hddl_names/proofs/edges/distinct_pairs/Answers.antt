use Rattle.std.proofs.Common.{◌+◌, sym, subst, take}
use Rattle.hddl_names.specs.Rows.{HasSame}
use Rattle.hddl_names.proofs.FromPairs.{same_more, same_end}
use Rattle.hddl_names.proofs.edges.distinct_pairs.Goals as goal

pub loop-pair-preserved : goal.loop-pair-preserved
loop-pair-preserved c =
    subst (λ ks. HasSame ks (take (c.loop-pair.pair-index + 1) c.args.pairs.now)) (sym c.in_ok-insert.ensures.keys)
    (same_more c.loop-pair.set.keys c.args.pairs.now c.loop-pair.pair-index c.loop-pair-test.true c.loop-pair.invariant)

pub returns : goal.returns
returns c = same_end c.loop-pair.set.keys c.args.pairs.now c.loop-pair.pair-index c.loop-pair-test.false c.loop-pair.invariant
