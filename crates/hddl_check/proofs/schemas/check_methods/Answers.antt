use Rattle.std.proofs.Common.{ap, refl}
use Rattle.std.proofs.lemmas.List.{take_all}
use Rattle.std.specs.List.{flat_map}
use Rattle.hddl_uses.specs.Contexts.{Fails, PassedOver}
use Rattle.hddl_check.specs.TextParts.{method_parts}
use Rattle.hddl_scope.proofs.Adding.{Adds-next, Adds-nil, Adds-list}
use Rattle.hddl_check.proofs.schemas.check_methods.Goals as goal

pub loop-method-init : goal.loop-method-init
loop-method-init c = Adds-nil (PassedOver c.args.context.now) (Fails c.args.context.now) refl

pub loop-method-preserved : goal.loop-method-preserved
loop-method-preserved c =
    Adds-next (PassedOver c.args.context.now) (Fails c.args.context.now) method_parts c.args.methods.now c.loop-method.method-index c.method-item.result c.loop-method-test.true c.method-item.is
    c.loop-method.invariant
    c.in_ok-check_method.ensures

pub returns : goal.returns
returns c =
    Adds-list (PassedOver c.args.context.now) (Fails c.args.context.now) (ap (flat_map method_parts) (take_all c.loop-method.method-index c.args.methods.now c.loop-method-test.false)) c.loop-method.invariant
