use Rattle.std.proofs.Common.{◌++◌}
use Rattle.picture_text.proofs.Writes.{adds}
use Rattle.picture_html.specs.Outline.{bars_at}
use Rattle.picture_html.specs.Page.{above, below, chart, details_of, head}
use Rattle.picture_html.proofs.page.say_page.Goals as goal

pub returns : goal.returns
returns c =
    let caption = c.args.caption.now in
    let remarks = c.args.remarks.now in
    let picture = c.args.picture.now in
    let o = c.args.out.now.items in
    let details = details_of remarks in
    let p0 = head caption details in
    let p1 = above caption remarks picture.file.now in
    let p2 = chart caption details picture (bars_at c.args.bars.now) in
    let p3 = below remarks picture.file.now c.args.tree.now in
    let n0 = c.say_head.new.out.items in
    let n1 = c.say_above.new.out.items in
    let n2 = c.say_chart.new.out.items in
    let m = c.say_below.new.out.items in
    adds o n0 m p0 (p1 ++ (p2 ++ p3)) c.in_ok-say_head.ensures
    (adds n0 n1 m p1 (p2 ++ p3) c.in_ok-say_above.ensures (adds n1 n2 m p2 p3 c.in_ok-say_chart.ensures c.in_ok-say_below.ensures))
