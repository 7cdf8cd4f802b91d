use Rattle.std.proofs.Common.{subst, sym}
use Rattle.plan_messages.specs.Numbers.{HasSightings}
use Rattle.plan_messages.specs.Mentions.{listed_at}
use Rattle.plan_messages.specs.Mentions.{IsMention}
use Rattle.std.specs.List.{AllZip}
use Rattle.plan_messages.proofs.About.{all_sighted}
use Rattle.plan_messages.proofs.numbers.listed.Goals as goal

pub returns : goal.returns
returns c =
    let p = c.args.plan.now in
    let lines = listed_at p in
    let all = subst (AllZip (IsMention p.text.now.lines) lines) (sym c.as_slice.ensures.value) c.in_ok-mentions.ensures in
    subst (HasSightings p lines c.args.ids.now) (sym c.in_ok-seen.ensures) (all_sighted p lines c.as_slice.result.now c.args.ids.now all)
