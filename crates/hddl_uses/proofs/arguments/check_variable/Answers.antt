use Rattle.std.proofs.Common.{◌≡◌, ◌∙◌, ap, is_some, refl, sym}
use Rattle.hddl_words.specs.declared.term.Term.TheVariants as term
use Rattle.hddl_meaning.specs.Mentions.{folded}
use Rattle.hddl_meaning.specs.Names.{object_names}
use Rattle.hddl_meaning.specs.declared.fault.CheckFault.TheVariants.{UnknownName}
use Rattle.hddl_meaning.specs.Items.{IsUnknownTerm, variable_in}
use Rattle.hddl_scope.proofs.Adding.{added_at, added_nowhere}
use Rattle.hddl_uses.proofs.Searching.{in_force_from, in_force_to, some_mapped}
use Rattle.hddl_uses.proofs.arguments.check_variable.Goals as goal

pub returns-then-is_some : goal.returns-then-is_some
returns-then-is_some c =
    let context = c.args.context.now in
    let scope = c.args.scope.now in
    let t = folded c.args.variable.now.text in
    let told : c.is_some.result ≡ is_some (variable_in scope t) =
    c.is_some.ensures ∙ sym (some_mapped (λ v. v.now) c.get.result) ∙ ap is_some c.get.ensures
    ∙ ap (λ x. is_some (variable_in scope x)) (c.as_slice.ensures ∙ c.in_ok-text.ensures ∙ ap folded c.text.ensures.value) in
    added_nowhere UnknownName context.source {P = IsUnknownTerm (object_names context.domain.now context.problem.now) (record { variables = scope; term = term.Variable c.args.variable.now })}
    (λ place h. h.0 (in_force_to scope t (sym told ∙ c.if-is_some.true))) refl

pub returns : goal.returns
returns c =
    let context = c.args.context.now in
    let scope = c.args.scope.now in
    let t = folded c.args.variable.now.text in
    let told : c.is_some.result ≡ is_some (variable_in scope t) =
    c.is_some.ensures ∙ sym (some_mapped (λ v. v.now) c.get.result) ∙ ap is_some c.get.ensures
    ∙ ap (λ x. is_some (variable_in scope x)) (c.as_slice.ensures ∙ c.in_ok-text.ensures ∙ ap folded c.text.ensures.value) in
    added_at UnknownName context.source {P = IsUnknownTerm (object_names context.domain.now context.problem.now) (record { variables = scope; term = term.Variable c.args.variable.now })}
    c.place.result c.at.result (λ at. let some = in_force_from scope t at in let no' = c.if-is_some.false in cc, c.place.ensures) (λ other h. h.1 ∙ sym c.place.ensures) c.at.ensures
    c.in_ok-push.ensures
