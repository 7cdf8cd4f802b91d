use Rattle.hddl_uses.specs.Contexts.{Fails, PassedOver}
use Rattle.hddl_check.specs.TextParts as parts
use Rattle.hddl_scope.proofs.Adding.{Adds-append}
use Rattle.hddl_check.proofs.shape.check_domain.Goals as goal

pub returns : goal.returns
returns c =
    Adds-append (PassedOver c.args.context.now) (Fails c.args.context.now) (parts.declared_parts c.args.context.now.domain.now) (parts.body_parts c.args.context.now.domain.now)
    c.in_ok-check_declared.ensures c.in_ok-check_bodies.ensures
