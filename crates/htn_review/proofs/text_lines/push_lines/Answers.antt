use Rattle.std.proofs.Common.{◌∙◌, ap, arith, get_or, length, min}
use Rattle.diagnostics.specs.Places.{position}
use Rattle.diagnostics.specs.declared.position.Position.{Position}
use Rattle.htn_review.proofs.TextLines.{line_more, same_line}
use Rattle.htn_review.proofs.text_lines.push_lines.Goals as goal

pub position-requires : goal.position-requires
position-requires c = omega (arith, c.min.ensures, ap length c.text-end.ensures)

pub loop-place-preserved : goal.loop-place-preserved
loop-place-preserved c =
    let text = c.args.text.now in
    let places = c.args.places.now in
    let i = c.loop-place.place-index in
    let place = get_or places i 0 in
    let least = c.min.ensures ∙ ap (λ t. min place (length t)) c.text-end.ensures in
    let line = ap (λ (p : Position). p.line) c.position.ensures ∙ ap (λ m. (position text m).line) least ∙ same_line text place in
    line_more text places c.args.lines.now.items c.loop-place.lines.items c.push.new.self.items i c.position.result.line c.loop-place-test.true line c.loop-place.invariant c.in_ok-push.ensures.items
