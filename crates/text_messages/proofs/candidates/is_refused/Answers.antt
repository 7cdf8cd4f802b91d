use Rattle.std.proofs.Common.{◌≡◌, ◌+◌, ◌∙◌, length, subst}
use Rattle.text_messages.specs.Following.{IsRefusedAt, continued}
use Rattle.text_messages.proofs.Continued.{never_follows}
use Rattle.text_messages.proofs.candidates.is_refused.Goals as goal

pub returns : goal.returns
returns c = λ is.
    let before = c.args.before.now in
    let word = c.args.word.now in
    let rest = c.as_slice.result.now in
    let text : c.as_slice-2.result.now ≡ continued before word rest = c.as_slice-2.ensures.value ∙ c.in_ok-text.ensures in
    never_follows c.args.role before word rest (subst (λ t. IsRefusedAt c.args.role t (length before + 1)) text (c.in_ok-is.ensures is))
