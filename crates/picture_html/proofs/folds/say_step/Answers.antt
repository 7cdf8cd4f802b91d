use Rattle.std.proofs.Common.{◌++◌, ◌-◌, length, option_map, ap, ap₂, ◌∙◌}
use Rattle.picture_text.specs.Details.{detail_at}
use Rattle.picture_text.specs.Lines.{line_at}
use Rattle.picture_html.specs.Outline.{bars_at, folds, ends}
use Rattle.picture_html.specs.Row.{level, row_text}
use Rattle.plan_picture.specs.Seen.{seen}
use Rattle.picture_html.proofs.Chains.{follows, reads}
use Rattle.picture_html.proofs.folds.say_step.Goals as goal

pub returns : goal.returns
returns c =
    let row = c.args.row.now in
    let o = c.args.out.now.items in
    let n = c.say_row.new.out.items in
    let m = c.say_ends.new.out.items in
    let r = c.say_ends.result in
    let mark = c.args.caption.now.mark in
    let line = line_at c.args.file.now row.line in
    let count = level row.depth - level c.args.next in
    let now = folds row.depth c.args.next in
    let all = bars_at c.args.bars.now row.line in
    let given = option_map (λ d. d.now) c.args.details in
    let detail = detail_at given (length c.args.file.now.actions) row.line in
    let said = c.detail_at-detail.ensures ∙ ap (λ xs. detail_at given (length xs) row.line) c.actions.ensures.value in
    follows r o n m (row_text mark now (seen row) line all detail) (ends count)
    (c.in_ok-say_row.ensures ∙ ap₂ (λ f d. o ++ row_text mark f (seen row) line c.bars_at-bars.result.now d) c.folds-folds.ensures said
    ∙ ap (λ bars. o ++ row_text mark now (seen row) line bars detail) c.bars_at-bars.ensures)
    (reads r n m (ends c.ends_between.result) (ends count) (ap ends c.ends_between.ensures) c.say_ends.ensures)
