use Rattle.std.proofs.Common.{[], ◌∷◌}
use Rattle.hddl_meaning.specs.Items.{most_declarations}
use Rattle.hddl_uses.specs.Contexts.{Fails, PassedOver}
use Rattle.hddl_uses.specs.Parts.{Different, Limited}
use Rattle.hddl_scope.proofs.Adding.{Adds-cons, Adds-single}
use Rattle.hddl_check.proofs.declarations.check_names.Goals as goal

pub returns : goal.returns
returns c =
    let O = PassedOver c.args.context.now in
    let P = Fails c.args.context.now in
    let ms = c.args.mentions.now in
    Adds-cons O P (Different ms) (Limited most_declarations ms ∷ []) c.in_ok-check_different.ensures (Adds-single O P (Limited most_declarations ms) c.in_ok-check_limit.ensures)
