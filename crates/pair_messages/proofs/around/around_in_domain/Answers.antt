use Rattle.std.proofs.Common.{IfSome, Option, inl, inr, refl, subst, sym}
use Rattle.std.specs.Borrow.{Bor}
use Rattle.hddl_words.specs.declared.domain.ActionText.{ActionText}
use Rattle.hddl_words.specs.declared.domain.MethodText.{MethodText}
use Rattle.hddl_meaning.specs.Mentions.{IsIn}
use Rattle.hddl_meaning.specs.Uses.{schema_of_action, schema_of_method}
use Rattle.pair_messages.specs.declared.stands.Stand.{Stand}
use Rattle.pair_messages.specs.Stands.{StandsIn}
use Rattle.pair_messages.proofs.around.around_in_domain.Goals as goal

pub returns-in-Some : goal.returns-in-Some
returns-in-Some c =
    let d = c.args.index.now.texts.now.domain_tree.now in
    let m = c.in-Some.method.now in
    let h = subst (λ (o : Option (Bor MethodText)). IfSome o (λ m. IsIn m.now d.methods × ((x : Stand) × StandsIn (schema_of_method m.now) c.args.place x))) c.in-Some.is c.in_ok-method.ensures in
    (refl, (schema_of_method m, inl (m, h.0, refl, sym c.place.ensures), h.1))

pub returns-in-Some-action : goal.returns-in-Some-action
returns-in-Some-action c =
    let d = c.args.index.now.texts.now.domain_tree.now in
    let a = c.in-Some-action.action.now in
    let h = subst (λ (o : Option (Bor ActionText)). IfSome o (λ a. IsIn a.now d.actions × ((x : Stand) × StandsIn (schema_of_action a.now) c.args.place x))) c.in-Some-action.is c.in_ok-action.ensures in
    (refl, (schema_of_action a, inr (a, h.0, refl, sym c.place-in-Some-action.ensures), h.1))
