use Rattle.std.proofs.Common.{subst, sym}
use Rattle.plan_messages.specs.Mentions.{defined_at}
use Rattle.plan_messages.specs.Places.{IsOnLineWith}
use Rattle.plan_messages.proofs.About.{placed_about}
use Rattle.plan_messages.proofs.single.line_error.Goals as goal

pub returns : goal.returns
returns c =
    let p = c.args.plan.now in
    let on = placed_about p (defined_at p) c.args.id c.in_ok-place.place c.words_or_whole-about.result c.in_ok-place.ensures c.words_or_whole-about.ensures in
    (c.in_ok-error.ensures.error, subst (IsOnLineWith p (defined_at p) c.args.id) (sym c.in_ok-error.ensures.about) on)
