use Rattle.std.proofs.Common.{◌≡◌, ◌+◌, ◌∙◌, ap, arith, drop, length, min}
use Rattle.std.proofs.lemmas.List.{drop_min, take_rest}
use Rattle.htn_review.proofs.page.after.Goals as goal

pub returns : goal.returns
returns c =
    let text = c.args.text.now in
    let start : c.min-start.result ≡ min (c.args.line + 1) (length text) = omega (arith, c.min-start.ensures, c.saturating_add.ensures) in
    take_rest text c.min-start.result ∙ ap (λ n. drop n text) start ∙ drop_min (c.args.line + 1) text
