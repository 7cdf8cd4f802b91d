use Rattle.std.proofs.Common.{◌∙◌, ap, subst, List}
use Rattle.hddl_words.specs.declared.term.VariableGroup.{VariableGroup}
use Rattle.hddl_meaning.specs.Items.{most_parameters}
use Rattle.hddl_meaning.specs.Mentions.{mentions_of, typed_variables}
use Rattle.hddl_uses.specs.Contexts.{Fails, PassedOver}
use Rattle.hddl_scope.specs.Findings.{Adds}
use Rattle.hddl_uses.specs.Parts.{Limited, type_parts}
use Rattle.hddl_scope.proofs.Adding.{Adds-cons, Adds-list}
use Rattle.hddl_check.proofs.declarations.check_predicate.Goals as goal

pub returns : goal.returns
returns c =
    let O = PassedOver c.args.context.now in
    let P = Fails c.args.context.now in
    let gs = c.args.predicate.now.parameters in
    Adds-cons O P (Limited most_parameters (mentions_of (typed_variables gs))) (type_parts (typed_variables gs))
    (subst (λ ms. Adds (O (Limited most_parameters ms)) (P (Limited most_parameters ms)) c.args.found.now c.check_limit.new.found)
    (c.deref.ensures.value ∙ c.in_ok-mentions.ensures ∙ ap (λ (g : List VariableGroup). mentions_of (typed_variables g)) c.as_slice.ensures) c.in_ok-check_limit.ensures)
    (Adds-list O P (ap (λ (g : List VariableGroup). type_parts (typed_variables g)) c.as_slice-2.ensures) c.in_ok-check_variable_types.ensures)
