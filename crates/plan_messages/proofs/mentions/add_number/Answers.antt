use Rattle.std.proofs.Common.{refl, subst, sym, ◌++◌}
use Rattle.std.specs.List.{AllZip}
use Rattle.indexmap.proofs.SetLemmas.{AllZip-push}
use Rattle.plan_messages.specs.Mentions.{IsMention, placed}
use Rattle.plan_messages.proofs.mentions.add_number.Goals as goal

pub returns-in_ok-push-in-Some : goal.returns-in_ok-push-in-Some
returns-in_ok-push-in-Some c before all =
    let is = IsMention c.args.text.now in
    subst (λ o. AllZip is (before ++ placed c.args.id o) c.push.new.self.items) (sym c.in-Some.is)
    (subst (AllZip is _) (sym c.in_ok-push-in-Some.ensures.items)
    (AllZip-push is before c.args.mentions.now.items (c.args.id, c.in-Some.line) (record { id = c.args.id; place = c.word_start-place.result }) all (refl, c.word_start-place.ensures)))
