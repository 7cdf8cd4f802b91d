use Rattle.std.proofs.Common.{◌≡◌, ◌++◌, arith}
use Rattle.picture_html.specs.Outline.{ends}
use Rattle.picture_html.proofs.Counting.{one_end_more, all_ended}
use Rattle.picture_html.proofs.folds.say_ends.Goals as goal

pub loop-left-preserved : goal.loop-left-preserved
loop-left-preserved c =
    one_end_more c.loop-left.left c.loop-left.out.items c.extend_from_slice.new.self.items (c.args.out.now.items ++ ends c.args.count) c.loop-left-test.true c.loop-left.invariant
    c.in_ok-extend_from_slice.ensures.items

pub returns : goal.returns
returns c =
    let none : c.loop-left.left ≡ 0 = omega arith in all_ended c.loop-left.left c.loop-left.out.items (c.args.out.now.items ++ ends c.args.count) none c.loop-left.invariant
