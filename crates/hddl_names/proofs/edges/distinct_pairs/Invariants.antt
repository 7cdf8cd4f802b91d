use Rattle.std.proofs.Common.{take}
use Rattle.hddl_names.specs.Rows.{HasSame}
use Rattle.hddl_names.proofs.edges.distinct_pairs.Given as goal

abbrev pub invariant-loop-pair : goal.invariant-loop-pair
invariant-loop-pair l = HasSame l.set.keys (take l.pair-index l.pairs)
