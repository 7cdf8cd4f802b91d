use Rattle.htn_model.proofs.Exhaustion.{dead_numbers_never_finish, exhaustion_decides}
use Rattle.htn_model.proofs.LiveSearch.{met_is_left_out}
use Rattle.htn_model.proofs.exhaustion_decides.Goals as goal

pub returns : goal.returns
returns c = record { dead = dead_numbers_never_finish; decides = exhaustion_decides; met = met_is_left_out }
