use Rattle.std.proofs.Common.{◌++◌, ◌-◌, option_map, ap, ap₂, ◌∙◌}
use Rattle.picture_text.specs.Details.{condition_of}
use Rattle.picture_text.specs.Lines.{id_of}
use Rattle.picture_text.specs.SeenLine.{seen_line}
use Rattle.picture_text.specs.Words.{mark_of, is_marked}
use Rattle.picture_html.specs.Bars.{max_levels}
use Rattle.picture_html.specs.Label.{label}
use Rattle.picture_html.specs.Row.{begin, row_class, end}
use Rattle.picture_html.specs.Time.{time}
use Rattle.picture_html.specs.Tip.{tip}
use Rattle.picture_html.proofs.Chains.{ended, follows, reads}
use Rattle.picture_html.proofs.row.say_line.Goals as goal

pub returns : goal.returns
returns c =
    let mark = c.args.caption.now.mark in
    let line = seen_line c.args.line in
    let row = c.args.row.now in
    let folds = c.args.folds in
    let more = row.depth - max_levels in
    let o = c.args.out.now.items in
    let n0 = c.say_begin.new.out.items in
    let n1 = c.say_class.new.out.items in
    let n2 = c.say_label.new.out.items in
    let n3 = c.say_time.new.out.items in
    let n4 = c.say_tip.new.out.items in
    let m = c.extend_from_slice.new.self.items in
    let r = c.extend_from_slice.result in
    let p0 = begin folds row.depth in
    let p1 = row_class (is_marked mark (id_of line)) line in
    let p2 = label (mark_of mark (id_of line)) more row.line line in
    let detail = option_map (λ d. d.now) c.args.detail in
    let p3 = time c.args.bars.now (condition_of detail) in
    let p4 = tip detail in
    let p5 = end folds in
    follows r o n0 m p0 (p1 ++ (p2 ++ (p3 ++ (p4 ++ p5)))) c.in_ok-say_begin.ensures
    (follows r n0 n1 m p1 (p2 ++ (p3 ++ (p4 ++ p5)))
    (c.in_ok-say_class.ensures ∙ ap (λ b. n0 ++ row_class b line) (c.is_marked.ensures ∙ ap (is_marked mark) c.id-id.ensures))
    (follows r n1 n2 m p2 (p3 ++ (p4 ++ p5))
    (c.in_ok-say_label.ensures ∙ ap₂ (λ k d. n1 ++ label k d row.line line) (c.mark_of.ensures ∙ ap (mark_of mark) c.id-id.ensures) c.saturating_sub-more.ensures)
    (follows r n2 n3 m p3 (p4 ++ p5) (c.in_ok-say_time.ensures ∙ ap (λ k. n2 ++ time c.args.bars.now k) c.condition_of.ensures)
    (follows r n3 n4 m p4 p5 c.in_ok-say_tip.ensures
    (reads r n4 m c.end_of.result.now p5 c.end_of.ensures (ended r n4 m c.end_of.result.now c.extend_from_slice.ensures.items))))))
