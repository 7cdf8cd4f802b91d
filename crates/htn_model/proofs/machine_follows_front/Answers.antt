use Rattle.htn_model.proofs.Along.{machine_follows}
use Rattle.htn_model.proofs.machine_follows_front.Goals as goal

pub returns : goal.returns
returns c = record { follows = machine_follows }
