use Rattle.std.proofs.Common.{List, subst}
use Rattle.std.specs.List.{All}
use Rattle.htn_model.specs.Schema.{Formula}
use Rattle.htn_ground.specs.Fixed.{IsFixed}
use Rattle.htn_ground.proofs.methods.literals_for.Goals as goal

pub returns : goal.returns
returns c =
    subst (λ (fs : List Formula). All (IsFixed c.args.task.now fs) c.in_ok-literals.literals.items) c.precondition.ensures c.in_ok-literals.ensures
