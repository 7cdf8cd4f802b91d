use Rattle.std.proofs.Common.{arith}
use Rattle.picture_svg.proofs.Rows.{columns_more}
use Rattle.picture_svg.proofs.columns.column_count.Goals as goal

pub loop-left-preserved : goal.loop-left-preserved
loop-left-preserved c =
    let within = c.loop-left.invariant.within in
    let some = c.loop-left-test.true in
    record {
      within = omega arith;
      so_far = columns_more c.args.actions c.args.rows.now c.loop-left.left c.index-rows-left.result c.loop-left.count c.in_ok-count.count some within c.index-rows-left.is c.loop-left.invariant.so_far c.in_ok-count.ensures;
    }
