use Rattle.picture_text.proofs.Writes.{adds}
use Rattle.picture_html.specs.Page.{header}
use Rattle.picture_html.specs.Why.{why}
use Rattle.picture_html.proofs.page.say_above.Goals as goal

pub returns : goal.returns
returns c =
    let caption = c.args.caption.now in
    adds c.args.out.now.items c.say_header.new.out.items c.say_why.new.out.items (header caption c.args.file.now) (why caption.verdict.now c.args.remarks.now.why.now)
    c.in_ok-say_header.ensures c.in_ok-say_why.ensures
