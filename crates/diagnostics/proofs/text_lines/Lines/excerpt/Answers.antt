use Rattle.std.proofs.Common.{◌≡◌, ◌-◌, length, take, drop, count_by, ap, ◌∙◌, sym, arith}
use Rattle.diagnostics.specs.Places.{is_line_feed, column_of, line_start, line_of, line_end, start_of}
use Rattle.diagnostics.specs.Shown.{excerpt_of}
use Rattle.diagnostics.proofs.Feeds.{column_is, start_le, count_front}
use Rattle.diagnostics.proofs.Ends.{line_of_front}
use Rattle.diagnostics.proofs.text_lines.Lines.excerpt.Goals as goal

pub start-start-requires : goal.start-start-requires
start-start-requires c = omega (arith, c.feeds_before-feeds.ensures, count_front c.args.self.now c.args.place c.requires)

pub end-end-requires : goal.end-end-requires
end-end-requires c = record {
  begins = c.start-start.ensures.value;
  within = omega (arith, c.feeds_before-feeds.ensures, count_front c.args.self.now c.args.place c.requires);
}

pub overflow_sub-place : goal.overflow_sub-place
overflow_sub-place c = omega (arith, start_le c.args.self.now c.args.place c.requires, c.start-start.ensures.value, ap (start_of c.args.self.now) c.feeds_before-feeds.ensures)

pub returns : goal.returns
returns c =
    let text = c.args.self.now in
    let place = c.args.place in
    let start : c.start-start.result ≡ start_of text (count_by is_line_feed (take place text)) = c.start-start.ensures.value ∙ ap (start_of text) c.feeds_before-feeds.ensures in
    let le = start_le text place c.requires in
    let column : place - c.start-start.result ≡ column_of text place = omega (arith, start, column_is text place c.requires) in
    let at : c.start-start.result ≡ line_start text place = omega (arith, start, le, column_is text place c.requires) in
    let rest = drop (line_start text place) text in
    let len : c.end-end.result - c.start-start.result ≡ length (line_of rest) = omega (arith, c.end-end.ensures.value, ap (line_end text) at, at) in
    let line : take (c.end-end.result - c.start-start.result) (drop c.start-start.result c.self.inside.text.now) ≡ line_of rest =
    ap (λ t. take (c.end-end.result - c.start-start.result) (drop c.start-start.result t)) c.self.view_is
    ∙ ap (λ n. take n (drop c.start-start.result text)) len ∙ ap (λ n. take (length (line_of rest)) (drop n text)) at ∙ sym (line_of_front rest) in
    c.excerpt_of.ensures ∙ ap (λ l. excerpt_of l (place - c.start-start.result)) line ∙ ap (excerpt_of (line_of rest)) column
