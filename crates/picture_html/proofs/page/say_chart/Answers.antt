use Rattle.std.proofs.Common.{◌++◌, length, option_map, ap, ◌∙◌}
use Rattle.plan_picture.specs.Seen.{seen_all}
use Rattle.picture_svg.specs.Grid.{rows_of, actions_of}
use Rattle.picture_html.specs.Outline.{bars_at, line_row, outline}
use Rattle.picture_html.specs.Page.{columns, ruler, key}
use Rattle.picture_html.specs.Tip.{are_tested}
use Rattle.picture_html.proofs.Chains.{follows, reads}
use Rattle.picture_html.proofs.page.say_chart.Goals as goal

pub returns : goal.returns
returns c =
    let picture = c.args.picture.now in
    let details = option_map (λ d. d.now) c.args.details in
    let text = line_row c.args.caption.now.mark picture.file.now details (bars_at c.args.bars.now) in
    let o = c.args.out.now.items in
    let n1 = c.say_columns.new.out.items in
    let n2 = c.say_ruler.new.out.items in
    let n3 = c.say_outline.new.out.items in
    let m = c.say_key.new.out.items in
    let actions = actions_of picture in
    let rows = outline text (rows_of picture) in
    let end = key (are_tested details) in
    let count = ap length c.actions-actions.ensures.value in
    follows c.say_key.result o n1 m (columns actions) (ruler actions ++ (rows ++ end)) (c.in_ok-say_columns.ensures ∙ ap (λ n. o ++ columns n) count)
    (follows c.say_key.result n1 n2 m (ruler actions) (rows ++ end) (c.in_ok-say_ruler.ensures ∙ ap (λ n. n1 ++ ruler n) count)
    (follows c.say_key.result n2 n3 m rows end (c.in_ok-say_outline.ensures ∙ ap (λ rs. n2 ++ outline text (seen_all rs)) c.as_slice-rows.ensures.value) (reads c.say_key.result n3 m (key c.are_tested.result) end (ap key c.are_tested.ensures) c.say_key.ensures)))
