use Rattle.std.proofs.Common.{◌∙◌, subst, sym}
use Rattle.std.proofs.lemmas.List.{take_all}
use Rattle.hddl_warnings.specs.Tells.{Tells}
use Rattle.hddl_words.specs.declared.domain.ActionText.{ActionText}
use Rattle.hddl_words.specs.declared.domain.MethodText.{MethodText}
use Rattle.hddl_meaning.specs.Uses.{schema_of_action, schema_of_method}
use Rattle.hddl_warnings.proofs.Telling.{AnyTold-none, AnyTold-next}
use Rattle.hddl_warnings.proofs.Schemas.{InActions, InMethods, UnusedIn, all_parameters}
use Rattle.hddl_warnings.proofs.parameters.tell_schemas.Goals as goal

pub loop-method-init : goal.loop-method-init
loop-method-init c = AnyTold-none (λ (m : MethodText). UnusedIn (schema_of_method m)) c.args.out.now.items

pub loop-method-preserved : goal.loop-method-preserved
loop-method-preserved c =
    AnyTold-next (λ (m : MethodText). UnusedIn (schema_of_method m)) c.args.out.now.items c.loop-method.out.items c.tell_parameters.new.out.items
    c.as_slice-method-items.result.now c.loop-method.method-index c.method-item.result c.loop-method-test.true c.method-item.is c.loop-method.invariant
    (c.in_ok-tell_parameters.ensures (schema_of_method c.method-item.result) c.in_ok-parts.ensures (sym c.as_slice.ensures))

pub loop-action-init : goal.loop-action-init
loop-action-init c = AnyTold-none (λ (a : ActionText). UnusedIn (schema_of_action a)) c.loop-method.out.items

pub loop-action-preserved : goal.loop-action-preserved
loop-action-preserved c =
    AnyTold-next (λ (a : ActionText). UnusedIn (schema_of_action a)) c.loop-method.out.items c.loop-action.out.items c.tell_parameters-in-loop-action.new.out.items
    c.as_slice-action-items.result.now c.loop-action.action-index c.action-item.result c.loop-action-test.true c.action-item.is c.loop-action.invariant
    (c.in_ok-tell_parameters-2.ensures (schema_of_action c.action-item.result) c.in_ok-parts-2.ensures (sym c.as_slice-in-loop-action.ensures))

pub returns : goal.returns
returns c =
    all_parameters c.args.out.now.items c.loop-method.out.items c.loop-action.out.items c.args.domain.now
    (subst (λ xs. Tells c.args.out.now.items c.loop-method.out.items (InMethods xs))
    (take_all c.loop-method.method-index c.as_slice-method-items.result.now c.loop-method-test.false ∙ c.as_slice-method-items.ensures) c.loop-method.invariant)
    (subst (λ xs. Tells c.loop-method.out.items c.loop-action.out.items (InActions xs))
    (take_all c.loop-action.action-index c.as_slice-action-items.result.now c.loop-action-test.false ∙ c.as_slice-action-items.ensures) c.loop-action.invariant)
