use Rattle.std.proofs.Common.{◌∙◌, ap, refl}
use Rattle.std.proofs.lemmas.List.{take_all}
use Rattle.std.specs.List.{flat_map}
use Rattle.hddl_uses.specs.Contexts.{Fails, PassedOver}
use Rattle.hddl_uses.specs.Parts.{name_group_parts}
use Rattle.hddl_scope.proofs.Adding.{Adds-next, Adds-nil, Adds-list}
use Rattle.hddl_uses.proofs.TypeNames.{name_groups}
use Rattle.hddl_uses.proofs.types.check_name_types.Goals as goal

pub loop-group-init : goal.loop-group-init
loop-group-init c = Adds-nil (PassedOver c.args.context.now) (Fails c.args.context.now) refl

pub loop-group-preserved : goal.loop-group-preserved
loop-group-preserved c =
    Adds-next (PassedOver c.args.context.now) (Fails c.args.context.now) name_group_parts c.args.groups.now c.loop-group.group-index c.group-item.result c.loop-group-test.true c.group-item.is
    c.loop-group.invariant c.in_ok-check_name_group.ensures

pub returns : goal.returns
returns c =
    Adds-list (PassedOver c.args.context.now) (Fails c.args.context.now)
    (ap (flat_map name_group_parts) (take_all c.loop-group.group-index c.args.groups.now c.loop-group-test.false) ∙ name_groups c.args.groups.now)
    c.loop-group.invariant
