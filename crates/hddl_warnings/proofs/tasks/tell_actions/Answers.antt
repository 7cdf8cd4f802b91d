use Rattle.std.proofs.Common.{◌≡◌, map, ap, subst, ◌∙◌}
use Rattle.hddl_warnings.specs.Tells.{IsUnlisted, Tells}
use Rattle.hddl_meaning.specs.Mentions.{mention_of}
use Rattle.hddl_warnings.specs.declared.warning.WarningKind.TheVariants as kind
use Rattle.hddl_warnings.proofs.Unlisted.{unlisted_unused}
use Rattle.hddl_warnings.proofs.tasks.tell_actions.Goals as goal

pub returns : goal.returns
returns c = λ named asked.
    let es = c.args.asked.now in
    let old = c.args.out.now.items in
    let new = c.tell_unlisted.new.out.items in
    let names = map (λ x. mention_of x.name) c.args.domain.now.actions in
    let is : c.deref.result.now ≡ names = c.deref.ensures.value ∙ c.in_ok-actions.ensures ∙ ap (map (λ x. mention_of x.name)) c.as_slice.ensures in
    unlisted_unused old new kind.UnusedAction names es named asked (subst (λ ms. Tells old new (IsUnlisted kind.UnusedAction ms es)) is c.in_ok-tell_unlisted.ensures)
