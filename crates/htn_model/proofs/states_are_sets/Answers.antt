use Rattle.htn_model.proofs.Sets.{states_are_sets}
use Rattle.htn_model.proofs.states_are_sets.Goals as goal

pub returns : goal.returns
returns c = record { sets = states_are_sets }
