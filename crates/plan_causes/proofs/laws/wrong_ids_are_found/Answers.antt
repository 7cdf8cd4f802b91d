use Rattle.plan_causes.proofs.Forests.{forests, others}
use Rattle.plan_causes.proofs.laws.wrong_ids_are_found.Goals as goal

pub returns-clause-forests : goal.returns-clause-forests
returns-clause-forests c = forests

pub returns-clause-others : goal.returns-clause-others
returns-clause-others c = others
