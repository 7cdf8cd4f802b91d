use Rattle.std.proofs.Common.{ap, arith}
use Rattle.std.proofs.lemmas.List.Sums.{sum_by_more}
use Rattle.pair_messages.specs.Counts.{literal_count}
use Rattle.pair_messages.proofs.summary.+count_in_condition.Goals as goal

pub loop-part-preserved : goal.loop-part-preserved
loop-part-preserved t c =
    let items = c.as_slice-part-items.result.now in
    let more = sum_by_more literal_count items c.loop-part.part-index c.part-item.result c.loop-part-test.true in
    let is = ap literal_count c.part-item.is in
    omega (arith, more, is, c.loop-part.invariant, c.count_in_condition.ensures, c.saturating_add-count.ensures)
