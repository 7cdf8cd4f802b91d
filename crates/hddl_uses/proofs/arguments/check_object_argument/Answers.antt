use Rattle.std.proofs.Common.{◌≡◌, ◌∙◌, Some, None, ap, is_some, refl, sym, true≢false}
use Rattle.std.specs.List.{position}
use Rattle.hddl_words.specs.declared.term.Term.TheVariants as term
use Rattle.hddl_meaning.specs.Mentions.{folded}
use Rattle.hddl_meaning.specs.Names.{is_same_text, object_names}
use Rattle.hddl_meaning.specs.Items.{IsMissing}
use Rattle.hddl_meaning.specs.declared.fault.CheckFault.TheVariants.{TypeClash, UnknownName}
use Rattle.hddl_uses.specs.Known.{IsKnownClash}
use Rattle.hddl_scope.proofs.Adding.{Adds-both, added_at, added_nowhere}
use Rattle.hddl_uses.proofs.Placing.{declared_types}
use Rattle.hddl_uses.proofs.Searching.{named}
use Rattle.hddl_uses.proofs.arguments.check_object_argument.Goals as goal

pub returns-in_default : goal.returns-in_default
returns-in_default c = λ variables.
    let context = c.args.context.now in
    let names = object_names context.domain.now context.problem.now in
    let t = folded c.args.name.now.text in
    let missing : position (is_same_text t) names ≡ None =
    (λ i. position (is_same_text ((sym (c.as_slice.ensures ∙ c.in_ok-text.ensures ∙ ap folded c.text.ensures.value)) i)) ((sym (c.objects.ensures ∙ ap (λ v. v.objects) context.known)) i))
    ∙ sym c.number_of.ensures ∙ c.in_default.is in
    Adds-both
    (added_at UnknownName context.source {P = IsMissing names c.args.name.now} c.place.result c.at.result
    (λ at. true≢false (sym ((named names t).1 at) ∙ ap is_some missing), c.place.ensures) (λ other h. h.1 ∙ sym c.place.ensures) c.at.ensures c.in_ok-push.ensures)
    (added_nowhere TypeClash context.source {P = IsKnownClash context.domain.now context.problem.now variables (term.Object c.args.name.now) c.args.place.now.typed}
    (λ place k. true≢false (sym ((named names t).1 k.clash.1.0) ∙ ap is_some missing)) refl)

pub returns-then-branch : goal.returns-then-branch
returns-then-branch c = λ variables.
    let context = c.args.context.now in
    let d = context.domain.now in
    let p = context.problem.now in
    let names = object_names d p in
    let t = folded c.args.name.now.text in
    let found : position (is_same_text t) names ≡ Some c.in-Some.object =
    (λ i. position (is_same_text ((sym (c.as_slice.ensures ∙ c.in_ok-text.ensures ∙ ap folded c.text.ensures.value)) i)) ((sym (c.objects.ensures ∙ ap (λ v. v.objects) context.known)) i))
    ∙ sym c.number_of.ensures ∙ c.in-Some.is in
    let lacks = (c.in_ok-lacks_type.ensures t found).0 c.if-branch.true in
    Adds-both
    (added_nowhere UnknownName context.source {P = IsMissing names c.args.name.now} (λ place h. h.0 ((named names t).0 (ap is_some found))) refl)
    (added_at TypeClash context.source {P = IsKnownClash d p variables (term.Object c.args.name.now) c.args.place.now.typed} c.place-then-branch.result c.at-then-branch.result
    (record {
      clash = (lacks.1, (lacks.2, (λ t at is. declared_types d p lacks.0 t at), lacks.3, c.place-then-branch.ensures));
      known = lacks.0;
    })
    (λ other k. k.clash.1.3 ∙ sym c.place-then-branch.ensures) c.at-then-branch.ensures c.in_ok-push-2.ensures)

pub returns : goal.returns
returns c = λ variables.
    let context = c.args.context.now in
    let d = context.domain.now in
    let p = context.problem.now in
    let names = object_names d p in
    let t = folded c.args.name.now.text in
    let found : position (is_same_text t) names ≡ Some c.in-Some.object =
    (λ i. position (is_same_text ((sym (c.as_slice.ensures ∙ c.in_ok-text.ensures ∙ ap folded c.text.ensures.value)) i)) ((sym (c.objects.ensures ∙ ap (λ v. v.objects) context.known)) i))
    ∙ sym c.number_of.ensures ∙ c.in-Some.is in
    let told = c.in_ok-lacks_type.ensures t found in
    Adds-both
    (added_nowhere UnknownName context.source {P = IsMissing names c.args.name.now} (λ place h. h.0 ((named names t).0 (ap is_some found))) refl)
    (added_nowhere TypeClash context.source {P = IsKnownClash d p variables (term.Object c.args.name.now) c.args.place.now.typed}
    (λ place k. let some = told.1 (k.known, k.clash.0, k.clash.1.0, k.clash.1.2) in let none = c.if-branch.false in cc) refl)
