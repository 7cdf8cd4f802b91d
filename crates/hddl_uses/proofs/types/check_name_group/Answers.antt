use Rattle.hddl_uses.specs.Contexts.{Fails, PassedOver}
use Rattle.hddl_uses.proofs.TypeNames.{name_group}
use Rattle.hddl_uses.proofs.types.check_name_group.Goals as goal

pub returns : goal.returns
returns c =
    name_group (PassedOver c.args.context.now) (Fails c.args.context.now) c.args.group.now (λ e. let some = c.is_empty.ensures.1 e in let none = c.if-is_empty.false in cc)
    c.in_ok-check_type.ensures
