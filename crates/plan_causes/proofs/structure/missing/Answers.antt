use Rattle.std.proofs.Common.{◌++◌, ◌∷◌, [], get_or, take, subst, sym, ap, ◌∙◌}
use Rattle.std.proofs.lemmas.List.{take_all}
use Rattle.plan_causes.specs.Structure.{AreExactly, IsMissing}
use Rattle.plan_causes.proofs.Sets.{found_in, missing_more, not_found, number_new, number_taken, present_more}
use Rattle.plan_causes.proofs.structure.missing.Goals.{then-not-contains+in_ok-push, else-not-contains}
use Rattle.plan_causes.proofs.structure.missing.Goals as goal

pub loop-id-preserved : goal.loop-id-preserved
loop-id-preserved c =
    let these = c.args.these.now in
    let those = c.args.those.now.keys in
    let i = c.loop-id.id-index in
    let x = get_or these i 0 in
    subst (λ xs. AreExactly (IsMissing those xs) c.if-not-contains.missing.items) (sym (number_taken these i c.loop-id-test.true))
    (elim c.if-not-contains.branch [
      | then-not-contains+in_ok-push w ↦ (
          let lost = not_found x those (sym c.contains.ensures ∙ w.if-not-contains.true) in
          subst (λ ids. AreExactly (IsMissing those (take i these ++ x ∷ [])) ids) (sym (ap (λ v. v.items) w.missing-is ∙ w.in_ok-push.ensures.items))
          (missing_more those (take i these) c.loop-id.missing.items x c.loop-id.invariant lost (number_new these i c.requires c.loop-id-test.true)))
      | else-not-contains w ↦ (
          let there = found_in x those (sym c.contains.ensures ∙ w.if-not-contains.false) in
          subst (λ ids. AreExactly (IsMissing those (take i these ++ x ∷ [])) ids) (sym (ap (λ v. v.items) w.missing-is))
          (present_more those (take i these) c.loop-id.missing.items x c.loop-id.invariant there))
    ])

pub returns : goal.returns
returns c =
    let whole = take_all c.loop-id.id-index c.args.these.now c.loop-id-test.false in
    subst (λ xs. AreExactly (IsMissing c.args.those.now.keys xs) c.loop-id.missing.items) whole c.loop-id.invariant
