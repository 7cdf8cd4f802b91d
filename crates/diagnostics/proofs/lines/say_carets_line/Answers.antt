use Rattle.std.proofs.Common.{◌≡◌, List, ◌++◌, ap, ◌∙◌}
use Rattle.std.specs.Prelude.{codes, replicate}
use Rattle.diagnostics.specs.Shown as shown
use Rattle.diagnostics.specs.declared.ink.Style.TheVariants.{Rule}
use Rattle.diagnostics.specs.Ink.{Ink, written, opened, closed, said, ended, styled}
use Rattle.diagnostics.specs.Parts.{label_inks}
use Rattle.diagnostics.proofs.Adds.{adds}
use Rattle.diagnostics.proofs.lines.say_carets_line.Goals as goal

pub returns : goal.returns
returns c =
    let col = c.args.colour in
    let spot = c.args.spot.now in
    let e = shown.excerpt spot.source.now.lines spot.place in
    let o = c.args.out.now.items in
    let rule : List Ink = styled Rule (codes "      | ") in
    let pads : List Ink = said (shown.padding e) in
    let opens : List Ink = opened c.args.style in
    let carets : List Ink = said (replicate (shown.carets e spot.word_len) 94) in
    let label : List Ink = label_inks c.args.label.now in
    let padding : c.as_slice.result.now ≡ shown.padding e = c.as_slice.ensures.value ∙ c.in_ok-padding.ensures ∙ ap shown.padding c.excerpt-excerpt.ensures in
    let padded : c.say.new.out.items ≡ c.say_in.new.out.items ++ written col pads = c.in_ok-say.ensures ∙ ap (λ p. c.say_in.new.out.items ++ written col (said p)) padding in
    let many : c.carets.result ≡ shown.carets e spot.word_len = c.carets.ensures ∙ ap (λ x. shown.carets x spot.word_len) c.excerpt-excerpt.ensures in
    let marked : c.say_repeated.new.out.items ≡ c.open.new.out.items ++ written col carets = c.in_ok-say_repeated.ensures ∙ ap (λ n. c.open.new.out.items ++ written col (said (replicate n 94))) many in
    let two = adds col o c.say_in.new.out.items c.say.new.out.items rule pads c.in_ok-say_in.ensures padded in
    let three = adds col o c.say.new.out.items c.open.new.out.items (rule ++ pads) opens two c.in_ok-open.ensures in
    let four = adds col o c.open.new.out.items c.say_repeated.new.out.items (rule ++ pads ++ opens) carets three marked in
    let five = adds col o c.say_repeated.new.out.items c.say_label.new.out.items (rule ++ pads ++ opens ++ carets) label four c.in_ok-say_label.ensures in
    let six = adds col o c.say_label.new.out.items c.close.new.out.items (rule ++ pads ++ opens ++ carets ++ label) closed five c.in_ok-close.ensures in
    adds col o c.close.new.out.items c.end_line.new.out.items (rule ++ pads ++ opens ++ carets ++ label ++ closed) ended six c.in_ok-end_line.ensures
