use Rattle.std.proofs.Common.{ℕ, get_or, arith}
use Rattle.picture_svg.proofs.Rows.{widest_more}
use Rattle.picture_svg.proofs.columns.widest.Goals as goal

pub loop-left-preserved : goal.loop-left-preserved
loop-left-preserved c =
    let within = c.loop-left.invariant.within in
    let some = c.loop-left-test.true in
    record {
      within = omega arith;
      so_far =
          widest_more c.args.actions (λ (line : ℕ). get_or c.args.widths.now line 0) c.args.count c.args.rows.now c.loop-left.left c.index-rows-left.result c.loop-left.wide.items c.widen_by.new.wide.items some within
          c.index-rows-left.is c.loop-left.invariant.so_far c.widen_by.ensures.long c.widen_by.ensures.wide;
    }
