use Rattle.std.proofs.Common.{◌≡◌, ◌+◌, ◌-◌, take, count_by, ap, ◌∙◌, arith}
use Rattle.diagnostics.specs.Places.{is_line_feed, column_of, start_of}
use Rattle.diagnostics.proofs.Feeds.{column_is, start_le, count_front}
use Rattle.std.proofs.lemmas.List.Sums.{count_by-le-length}
use Rattle.diagnostics.proofs.text_lines.Lines.position.Goals as goal

pub start-requires : goal.start-requires
start-requires c = omega (arith, c.feeds_before-feeds.ensures, count_front c.args.self.now c.args.place c.requires)

pub overflow_add-result : goal.overflow_add-result
overflow_add-result c = omega (arith, c.feeds_before-feeds.ensures, count_front c.args.self.now c.args.place c.requires, count_by-le-length is_line_feed c.args.self.now, c.len-len.ensures.value, c.len-len.ensures.small)

pub overflow_sub-result : goal.overflow_sub-result
overflow_sub-result c = omega (arith, start_le c.args.self.now c.args.place c.requires, c.start.ensures.value, ap (start_of c.args.self.now) c.feeds_before-feeds.ensures)

pub overflow_add-result-2 : goal.overflow_add-result-2
overflow_add-result-2 c = omega (arith, c.requires, c.len-len.ensures.value, c.len-len.ensures.small)

pub returns : goal.returns
returns c =
    let text = c.args.self.now in
    let place = c.args.place in
    let line : c.feeds_before-feeds.result + 1 ≡ 1 + count_by is_line_feed (take place text) = omega (arith, c.feeds_before-feeds.ensures) in
    let start : c.start.result ≡ start_of text (count_by is_line_feed (take place text)) = c.start.ensures.value ∙ ap (start_of text) c.feeds_before-feeds.ensures in
    let column : place - c.start.result + 1 ≡ 1 + column_of text place = omega (arith, start, column_is text place c.requires) in
    cc
