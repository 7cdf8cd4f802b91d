use Rattle.std.proofs.Common.{◌≡◌, ◌∙◌, ap, is_some, sym}
use Rattle.std.specs.List.{position}
use Rattle.hddl_meaning.specs.Mentions.{folded}
use Rattle.hddl_meaning.specs.Names.{is_same_text, type_names}
use Rattle.hddl_uses.proofs.TypeNames.{is_type_number}
use Rattle.hddl_uses.proofs.types.is_declared.Goals as goal

pub returns : goal.returns
returns c =
    let d = c.args.context.now.domain.now in
    let t = folded c.args.name.now.text in
    let told : c.is_some.result ≡ is_some (position (is_same_text t) (type_names d)) =
    c.is_some.ensures
    ∙ ap is_some
    (c.number_of.ensures
    ∙ (λ i. position (is_same_text ((c.as_slice.ensures ∙ c.in_ok-text.ensures ∙ ap folded c.text.ensures.value) i)) ((c.types-types.ensures ∙ ap (λ v. v.types) c.args.context.now.known) i))) in
    (λ h. (is_type_number d t).0 (sym told ∙ h), λ h. told ∙ (is_type_number d t).1 h)
