use Rattle.std.proofs.Common.{◌∙◌, subst}
use Rattle.std.proofs.lemmas.List.{take_all}
use Rattle.hddl_warnings.specs.Tells.{Tells}
use Rattle.hddl_warnings.specs.Warnings.{IsOpposed}
use Rattle.hddl_words.specs.declared.domain.ActionText.{ActionText}
use Rattle.hddl_warnings.proofs.Telling.{AnyTold-none, AnyTold-next}
use Rattle.hddl_warnings.proofs.Opposed.{AnyOpposed}
use Rattle.hddl_warnings.proofs.effects.tell_effects.Goals as goal

pub loop-action-init : goal.loop-action-init
loop-action-init c = AnyTold-none (λ (a : ActionText). IsOpposed a.effect) c.args.out.now.items

pub loop-action-preserved : goal.loop-action-preserved
loop-action-preserved c =
    let a = c.action-item.result in
    AnyTold-next (λ (a : ActionText). IsOpposed a.effect) c.args.out.now.items c.loop-action.out.items c.tell_action.new.out.items c.as_slice-action-items.result.now
    c.loop-action.action-index a c.loop-action-test.true c.action-item.is c.loop-action.invariant
    (subst (λ ls. Tells c.loop-action.out.items c.tell_action.new.out.items (IsOpposed ls)) c.as_slice.ensures c.in_ok-tell_action.ensures)

pub returns : goal.returns
returns c =
    subst (λ xs. Tells c.args.out.now.items c.loop-action.out.items (AnyOpposed xs))
    (take_all c.loop-action.action-index c.as_slice-action-items.result.now c.loop-action-test.false ∙ c.as_slice-action-items.ensures) c.loop-action.invariant
