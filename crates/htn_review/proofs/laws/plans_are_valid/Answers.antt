use Rattle.htn_review.proofs.ValidPlans.{long_plans_are_refused, plans_are_valid}
use Rattle.htn_review.proofs.laws.plans_are_valid.Goals as goal

pub returns : goal.returns
returns c = record { valid = plans_are_valid; long = long_plans_are_refused }
