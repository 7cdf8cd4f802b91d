use Rattle.std.proofs.Common.{◌≡◌, ◌∙◌, None, ap, is_some, refl, sym, true, true≢false}
use Rattle.hddl_meaning.specs.Mentions.{folded}
use Rattle.hddl_meaning.specs.declared.fault.CheckFault.TheVariants.{UnknownSubtask}
use Rattle.hddl_scope.specs.Numbers.{number_at}
use Rattle.hddl_scope.proofs.Adding.{added_at, added_nowhere}
use Rattle.hddl_scope.proofs.Finding.{none_from}
use Rattle.hddl_uses.proofs.networks.check_label.Goals as goal

pub returns-then-is_some : goal.returns-then-is_some
returns-then-is_some c =
    let numbers = c.args.numbers.now in
    let t = folded c.args.name.now.text in
    let told : c.is_some.result ≡ is_some (number_at numbers t) =
    c.is_some.ensures ∙ ap is_some (c.get.ensures ∙ ap (number_at numbers) (c.as_slice.ensures ∙ c.in_ok-text.ensures ∙ ap folded c.text.ensures.value)) in
    added_nowhere UnknownSubtask c.args.context.now.source {P = λ place. (number_at numbers t ≡ None) × (place ≡ c.args.name.now.place)}
    (λ place h. true≢false (sym c.if-is_some.true ∙ told ∙ ap is_some h.0)) refl

pub returns : goal.returns
returns c =
    let numbers = c.args.numbers.now in
    let t = folded c.args.name.now.text in
    let told : c.is_some.result ≡ is_some (number_at numbers t) =
    c.is_some.ensures ∙ ap is_some (c.get.ensures ∙ ap (number_at numbers) (c.as_slice.ensures ∙ c.in_ok-text.ensures ∙ ap folded c.text.ensures.value)) in
    added_at UnknownSubtask c.args.context.now.source {P = λ place. (number_at numbers t ≡ None) × (place ≡ c.args.name.now.place)} c.place.result c.at.result
    (none_from (number_at numbers t) (sym told ∙ c.if-is_some.false), c.place.ensures) (λ other h. h.1 ∙ sym c.place.ensures) c.at.ensures c.in_ok-push.ensures
