use Rattle.std.proofs.Common.{◌++◌, option_map}
use Rattle.plan_picture.specs.Seen.{seen_all}
use Rattle.picture_html.specs.Outline.{bars_at, line_row, outline}
use Rattle.picture_html.proofs.Stepping.{outline_more, outline_all}
use Rattle.picture_html.proofs.folds.say_outline.Goals as goal

pub loop-place-preserved : goal.loop-place-preserved
loop-place-preserved c =
    let text = line_row c.args.caption.now.mark c.args.file.now (option_map (λ d. d.now) c.args.details) (bars_at c.args.bars.now) in
    outline_more text c.args.rows.now c.loop-place.place c.depth_at-next.result c.index-rows-place.result c.loop-place.out.items c.say_step.new.out.items
    (c.args.out.now.items ++ outline text (seen_all c.args.rows.now)) c.loop-place-test.true c.index-rows-place.is c.depth_at-next.ensures c.loop-place.invariant c.in_ok-say_step.ensures

pub returns : goal.returns
returns c =
    let text = line_row c.args.caption.now.mark c.args.file.now (option_map (λ d. d.now) c.args.details) (bars_at c.args.bars.now) in
    outline_all text c.args.rows.now c.loop-place.place c.loop-place.out.items (c.args.out.now.items ++ outline text (seen_all c.args.rows.now)) c.loop-place-test.false c.loop-place.invariant
