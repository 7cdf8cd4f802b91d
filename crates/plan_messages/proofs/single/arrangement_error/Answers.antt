use Rattle.std.proofs.Common.{subst, sym}
use Rattle.plan_messages.specs.Places.{IsOnLineOf}
use Rattle.plan_messages.proofs.single.arrangement_error.Goals as goal

pub returns : goal.returns
returns c =
    let p = c.args.plan.now in
    let on = subst (λ o. IsOnLineOf p o c.word_or_whole-about.result) c.root_place.ensures c.word_or_whole-about.ensures in
    (c.in_ok-error.ensures.error, subst (IsOnLineOf p _) (sym c.in_ok-error.ensures.about) on)
