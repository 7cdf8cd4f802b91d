use Rattle.std.proofs.Common.{[], ◌∷◌}
use Rattle.hddl_uses.specs.Contexts.{Fails, PassedOver}
use Rattle.hddl_uses.specs.Parts.{Side}
use Rattle.hddl_scope.proofs.Adding.{Adds-cons, Adds-single}
use Rattle.hddl_uses.proofs.uses.check_equality.Goals as goal

pub returns : goal.returns
returns c =
    let O = PassedOver c.args.context.now in
    let P = Fails c.args.context.now in
    let right = Side (record { variables = c.args.scope.now; term = c.args.equality.now.right }) in
    Adds-cons O P (Side (record { variables = c.args.scope.now; term = c.args.equality.now.left })) (right ∷ []) c.in_ok-check_term.ensures
    (Adds-single O P right c.in_ok-check_term-2.ensures)
