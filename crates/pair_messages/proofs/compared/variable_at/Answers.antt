use Rattle.std.proofs.Common.{◌≡◌, ◌∙◌, ℕ, Some, IfSome, Option, ap, refl, subst}
use Rattle.hddl_meaning.specs.Items.{variable_mentions}
use Rattle.hddl_meaning.specs.Mentions.{folded}
use Rattle.pair_messages.specs.Notes.{first_place}
use Rattle.pair_messages.specs.Stands.{in_force}
use Rattle.pair_messages.proofs.compared.variable_at.Goals as goal

pub returns-in-Some : goal.returns-in-Some
returns-in-Some c =
    let names = variable_mentions (in_force c.args.scope.now) in
    let first = subst (λ (o : Option ℕ). IfSome o (λ place. first_place names c.as_slice.result.now ≡ Some place)) c.in-Some.is c.in_ok-first.ensures in
    (refl, subst (λ text. first_place names text ≡ Some c.in-Some.place) (c.as_slice.ensures ∙ c.in_ok-text.ensures ∙ ap folded c.text.ensures.value) first)
