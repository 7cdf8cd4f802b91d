use Rattle.std.proofs.Common.{◌-◌, length, ◌<◌, ◌^◌, ◌∙◌, arith}
use Rattle.htn_order.proofs.Columns.{counted_more, lane_counts, lane_fits}
use Rattle.htn_order.proofs.bit_rows.BitRows.push_counts.Goals as goal

pub lane-requires-clause-fits : goal.lane-requires-clause-fits
lane-requires-clause-fits c =
    let few : length c.args.self.now < 2 ^ 64 = (let v = c.size.ensures.value in let t = c.size.type_inv in let a = c.size.auto in omega arith) in
    lane_fits c.args.self.now c.args.from (c.loop-position.position - c.args.from) c.args.lanes.now c.requires.lanes few
    (let low = c.loop-position-test.true in let m = c.min-position-end.ensures in let s = c.saturating_add.ensures in omega arith)

pub loop-position-preserved : goal.loop-position-preserved
loop-position-preserved c =
    counted_more c.args.self.now c.loop-position.position c.lane.result c.loop-position.counts.items c.push.new.self.items c.loop-position.invariant c.in_ok-push.ensures.items
    (c.lane.ensures
    ∙ lane_counts c.args.self.now c.args.from c.loop-position.position c.args.lanes.now c.requires.lanes c.loop-position.auto.position
    (let low = c.loop-position-test.true in let m = c.min-position-end.ensures in let s = c.saturating_add.ensures in omega arith))
