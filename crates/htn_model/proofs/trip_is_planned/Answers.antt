use Rattle.htn_model.proofs.Trip.{trip_is_planned}
use Rattle.htn_model.proofs.trip_is_planned.Goals as goal

pub returns : goal.returns
returns c = record { planned = trip_is_planned }
