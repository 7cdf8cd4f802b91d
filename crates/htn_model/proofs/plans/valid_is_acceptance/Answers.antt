use Rattle.htn_model.proofs.Rooms.{valid_is_acceptance}
use Rattle.htn_model.proofs.plans.valid_is_acceptance.Goals as goal

pub returns : goal.returns
returns c = record { same = valid_is_acceptance }
