use Rattle.htn_model.specs.Equality.{tests_decide}
use Rattle.htn_model.proofs.tests_of_equality_decide.Goals as goal

pub returns : goal.returns
returns c = record { decide = tests_decide }
