use Rattle.htn_walk.proofs.Lawful.{lawful}
use Rattle.htn_walk.proofs.answer.machine_is_lawful.Goals as goal

pub returns : goal.returns
returns c = record { lawful = lawful }
