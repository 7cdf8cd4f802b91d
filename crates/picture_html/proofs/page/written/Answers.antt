use Rattle.std.proofs.Common.{◌++◌, ap, ◌∙◌}
use Rattle.picture_html.specs.Outline.{bars_at}
use Rattle.picture_html.specs.Page.{html_bytes}
use Rattle.picture_html.proofs.page.written.Goals as goal

pub returns : goal.returns
returns c =
    let page = html_bytes c.args.caption.now c.args.remarks.now c.args.picture.now (bars_at c.args.bars.now) c.args.tree.now in
    c.in_ok-say_page.ensures ∙ ap (λ l. l ++ page) c.new-out.ensures.items
