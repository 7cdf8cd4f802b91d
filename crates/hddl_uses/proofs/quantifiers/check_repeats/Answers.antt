use Rattle.std.proofs.Common.{◌∙◌, ◌∷◌, List, ℕ, IfSome, ap, map, refl, subst}
use Rattle.std.specs.List.{fold}
use Rattle.hddl_meaning.specs.Items.{variable_mentions}
use Rattle.hddl_meaning.specs.declared.fault.CheckFault.TheVariants.{Duplicate}
use Rattle.hddl_scope.specs.Findings.{keep}
use Rattle.hddl_scope.specs.Repeats.{IsRepeatOfFirst}
use Rattle.hddl_scope.proofs.Adding.{found_none}
use Rattle.hddl_uses.specs.Contexts.{duplicate_at}
use Rattle.hddl_uses.proofs.Duplicates.{repeats_among}
use Rattle.hddl_uses.proofs.quantifiers.check_repeats.Goals as goal

pub returns-in_default : goal.returns-in_default
returns-in_default c = found_none Duplicate c.args.context.now.source c.repeat.ensures c.in_default.is refl

pub returns : goal.returns
returns c =
    let text = c.args.context.now.source in
    let ms = variable_mentions c.args.scope.now in
    repeats_among text ms c.in_ok-places.places.items c.args.start c.in-Some.place (subst (λ o. IfSome o (IsRepeatOfFirst ms)) c.in-Some.is c.repeat.ensures.sound) c.in_ok-places.ensures
    (c.in_ok-push_repeats.ensures
    ∙ (λ i. fold keep ((c.in_ok-push.ensures ∙ ap (λ a. keep c.args.found.now (Duplicate a)) c.at.ensures) i) (map (duplicate_at text) (c.deref.ensures.value i))))
