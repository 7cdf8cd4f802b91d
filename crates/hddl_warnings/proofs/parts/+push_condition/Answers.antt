use Rattle.std.proofs.Common.{◌≡◌, ◌++◌, ◌∷◌, [], List, map, ap, refl, subst, ◌∙◌, take}
use Rattle.std.proofs.lemmas.List.{map-append, take_all}
use Rattle.hddl_words.specs.declared.term.VariableGroup.{VariableGroup}
use Rattle.hddl_warnings.specs.Parts.{AddsEach, groups}
use Rattle.hddl_warnings.proofs.Folding.{Adds-equality, Adds-forall, Adds-literal, AddsEach-next, push_two}
use Rattle.hddl_warnings.proofs.parts.+push_condition.Goals as goal

pub loop-part-preserved : goal.loop-part-preserved
loop-part-preserved t c =
    AddsEach-next c.loop-group.parts c.loop-part.parts c.push_condition.new.parts c.as_slice-part-items.result.now c.loop-part.part-index c.part-item.result
    c.loop-part-test.true c.part-item.is c.loop-part.invariant c.in_ok-push_condition-in-Forall.ensures

pub returns-in_ok-push-in-Literal : goal.returns-in_ok-push-in-Literal
returns-in_ok-push-in-Literal t c =
    Adds-literal c.args.parts.now _ c.in-Literal.literal c.args.condition.now c.in-Literal.is
    (ap (map (λ x. x.now)) c.in_ok-push-in-Literal.ensures.items ∙ map-append (λ x. x.now) c.args.parts.now.atoms.items (_ ∷ [])) refl refl

pub returns-in_ok-push-in-Equality-2 : goal.returns-in_ok-push-in-Equality-2
returns-in_ok-push-in-Equality-2 t c =
    Adds-equality c.args.parts.now _ c.in-Equality.equality c.args.condition.now c.in-Equality.is refl
    (push_two (λ x. x.now) _ _ _ _ _ c.in_ok-push-in-Equality.ensures.items c.in_ok-push-in-Equality-2.ensures.items) refl

pub returns-after-loop-part : goal.returns-after-loop-part
returns-after-loop-part t c =
    let gs = c.in-Forall.groups in
    let cs = c.in-Forall.body in
    let all_groups : take c.loop-group.group-index c.as_slice-group-items.result.now ≡ gs =
    take_all c.loop-group.group-index c.as_slice-group-items.result.now c.loop-group-test.false ∙ c.as_slice-group-items.ensures in
    let all_parts : take c.loop-part.part-index c.as_slice-part-items.result.now ≡ cs =
    take_all c.loop-part.part-index c.as_slice-part-items.result.now c.loop-part-test.false ∙ c.as_slice-part-items.ensures in
    let inv = c.loop-group.invariant in
    Adds-forall c.args.parts.now c.loop-group.parts c.loop-part.parts gs cs c.args.condition.now c.in-Forall.is (ap (map (λ x. x.now)) inv.atoms)
    (ap (map (λ x. x.now)) inv.sides) (inv.groups ∙ ap (λ (l : List VariableGroup). groups c.args.parts.now ++ l) all_groups)
    (subst (λ l. AddsEach c.loop-group.parts c.loop-part.parts l) all_parts c.loop-part.invariant)
