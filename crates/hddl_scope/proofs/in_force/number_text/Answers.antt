use Rattle.std.proofs.Common.{◌∙◌, ap}
use Rattle.hddl_scope.specs.Numbers.{number_at}
use Rattle.hddl_scope.proofs.Repeating.{number_at-push}
use Rattle.hddl_scope.proofs.in_force.number_text.Goals as goal

pub returns-in_ok-add-clause-numbers : goal.returns-in_ok-add-clause-numbers
returns-in_ok-add-clause-numbers c =
    λ t. ap (λ es. number_at es t) c.in_ok-add.ensures.ok ∙ number_at-push c.args.positions.now c.args.text.now c.args.number t
