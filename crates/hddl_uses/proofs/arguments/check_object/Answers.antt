use Rattle.std.proofs.Common.{◌≡◌, ◌∙◌, ap, is_some, refl, sym, true}
use Rattle.std.specs.List.{position}
use Rattle.hddl_meaning.specs.Mentions.{folded}
use Rattle.hddl_meaning.specs.Names.{is_same_text, object_names}
use Rattle.hddl_meaning.specs.declared.fault.CheckFault.TheVariants.{UnknownName}
use Rattle.hddl_meaning.specs.Items.{IsMissing}
use Rattle.hddl_scope.proofs.Adding.{added_at, added_nowhere}
use Rattle.hddl_uses.proofs.Searching.{named}
use Rattle.hddl_uses.proofs.arguments.check_object.Goals as goal

pub returns-then-is_some : goal.returns-then-is_some
returns-then-is_some c =
    let context = c.args.context.now in
    let names = object_names context.domain.now context.problem.now in
    let t = folded c.args.name.now.text in
    let told : is_some (position (is_same_text t) names) ≡ true =
    ap is_some
    (λ i. position (is_same_text ((sym (c.as_slice.ensures ∙ c.in_ok-text.ensures ∙ ap folded c.text.ensures.value)) i)) ((sym (c.objects.ensures ∙ ap (λ v. v.objects) context.known)) i))
    ∙ sym (ap is_some c.number_of.ensures) ∙ sym c.is_some.ensures ∙ c.if-is_some.true in
    added_nowhere UnknownName context.source {P = IsMissing names c.args.name.now} (λ place h. h.0 ((named names t).0 told)) refl

pub returns : goal.returns
returns c =
    let context = c.args.context.now in
    let names = object_names context.domain.now context.problem.now in
    let t = folded c.args.name.now.text in
    let told : c.is_some.result ≡ is_some (position (is_same_text t) names) =
    c.is_some.ensures ∙ ap is_some c.number_of.ensures
    ∙ ap is_some
    (λ i. position (is_same_text ((c.as_slice.ensures ∙ c.in_ok-text.ensures ∙ ap folded c.text.ensures.value) i)) ((c.objects.ensures ∙ ap (λ v. v.objects) context.known) i)) in
    added_at UnknownName context.source {P = IsMissing names c.args.name.now} c.place.result c.at.result
    (λ at. let some = (named names t).1 at in let no' = c.if-is_some.false in cc, c.place.ensures) (λ other h. h.1 ∙ sym c.place.ensures) c.at.ensures c.in_ok-push.ensures
