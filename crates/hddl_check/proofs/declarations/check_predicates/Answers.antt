use Rattle.std.proofs.Common.{ap, refl}
use Rattle.std.proofs.lemmas.List.{take_all}
use Rattle.std.specs.List.{flat_map}
use Rattle.hddl_uses.specs.Contexts.{Fails, PassedOver}
use Rattle.hddl_check.specs.TextParts.{predicate_parts}
use Rattle.hddl_scope.proofs.Adding.{Adds-next, Adds-nil, Adds-list}
use Rattle.hddl_check.proofs.declarations.check_predicates.Goals as goal

pub loop-predicate-init : goal.loop-predicate-init
loop-predicate-init c = Adds-nil (PassedOver c.args.context.now) (Fails c.args.context.now) refl

pub loop-predicate-preserved : goal.loop-predicate-preserved
loop-predicate-preserved c =
    Adds-next (PassedOver c.args.context.now) (Fails c.args.context.now) predicate_parts c.args.predicates.now c.loop-predicate.predicate-index c.predicate-item.result c.loop-predicate-test.true c.predicate-item.is
    c.loop-predicate.invariant
    c.in_ok-check_predicate.ensures

pub returns : goal.returns
returns c =
    Adds-list (PassedOver c.args.context.now) (Fails c.args.context.now) (ap (flat_map predicate_parts) (take_all c.loop-predicate.predicate-index c.args.predicates.now c.loop-predicate-test.false)) c.loop-predicate.invariant
