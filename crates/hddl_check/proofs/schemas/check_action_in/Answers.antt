use Rattle.std.proofs.Common.{◌≡◌, ◌∙◌, ◌++◌, ap, subst, List, map}
use Rattle.hddl_words.specs.declared.term.VariableGroup.{VariableGroup}
use Rattle.hddl_words.specs.declared.condition.LiteralText.{LiteralText}
use Rattle.hddl_meaning.specs.Uses.{Variable, parameters_of, schema_of_action}
use Rattle.hddl_uses.specs.Contexts.{Fails, PassedInside, PassedOver}
use Rattle.hddl_scope.specs.Findings.{AddsAny}
use Rattle.hddl_uses.specs.Parts.{Part, Atom, conditions_parts}
use Rattle.hddl_check.specs.TextParts.{inner_parts, parameter_parts}
use Rattle.hddl_scope.proofs.Adding.{Adds-append, Adds-list, Adds-within}
use Rattle.hddl_uses.proofs.Arguing.{all_inside}
use Rattle.hddl_check.proofs.SchemaLists.{action_inner, to_action, from_action}
use Rattle.hddl_check.proofs.Inside.{schema_added}
use Rattle.hddl_check.proofs.schemas.check_action_in.Goals as goal

pub returns : goal.returns
returns c =
    let context = c.args.context.now in
    let P = Fails context in
    let a = c.args.action.now in
    let inner : List Part = inner_parts (schema_of_action a) in
    let w : List Variable = parameters_of a.parameters in
    let N = PassedInside context w in
    let scope : c.args.scope.now ≡ w = c.requires in
    let kept : c.check_conditions.new.scope ≡ w = c.in_ok-check_conditions.ensures.kept ∙ scope in
    let conditions : List Part = conditions_parts w a.precondition in
    let effects : List Part = map Atom (map (λ l. record { variables = w; atom = l.atom }) a.effect) in
    schema_added context a.parameters inner
    (Adds-list (PassedOver context) P (ap (λ (g : List VariableGroup). parameter_parts g) c.as_slice.ensures) c.in_ok-check_parameters.ensures)
    (Adds-within N P (action_inner a) inner (to_action a) (from_action a)
    (Adds-append N P conditions effects
    (subst (λ v. AddsAny (PassedInside context v) P (conditions_parts v a.precondition) c.check_parameters.new.found c.check_conditions.new.found) scope
    (Adds-list (PassedInside context c.args.scope.now) P (ap (conditions_parts c.args.scope.now) c.as_slice-2.ensures) c.in_ok-check_conditions.ensures.found))
    (all_inside context w effects
    (Adds-list (PassedOver context) P (λ i. map Atom (map (λ (l : LiteralText). record { variables = kept i; atom = l.atom }) (c.as_slice-3.ensures i))) c.in_ok-check_effects.ensures))))
