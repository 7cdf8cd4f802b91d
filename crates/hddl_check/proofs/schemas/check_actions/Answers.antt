use Rattle.std.proofs.Common.{ap, refl}
use Rattle.std.proofs.lemmas.List.{take_all}
use Rattle.std.specs.List.{flat_map}
use Rattle.hddl_uses.specs.Contexts.{Fails, PassedOver}
use Rattle.hddl_check.specs.TextParts.{action_parts}
use Rattle.hddl_scope.proofs.Adding.{Adds-next, Adds-nil, Adds-list}
use Rattle.hddl_check.proofs.schemas.check_actions.Goals as goal

pub loop-action-init : goal.loop-action-init
loop-action-init c = Adds-nil (PassedOver c.args.context.now) (Fails c.args.context.now) refl

pub loop-action-preserved : goal.loop-action-preserved
loop-action-preserved c =
    Adds-next (PassedOver c.args.context.now) (Fails c.args.context.now) action_parts c.args.actions.now c.loop-action.action-index c.action-item.result c.loop-action-test.true c.action-item.is
    c.loop-action.invariant
    c.in_ok-check_action.ensures

pub returns : goal.returns
returns c =
    Adds-list (PassedOver c.args.context.now) (Fails c.args.context.now) (ap (flat_map action_parts) (take_all c.loop-action.action-index c.args.actions.now c.loop-action-test.false)) c.loop-action.invariant
