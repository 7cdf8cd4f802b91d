use Rattle.htn_model.proofs.Forests.{networks_decouple}
use Rattle.htn_model.proofs.plans.networks_decouple.Goals as goal

pub returns : goal.returns
returns c = record { decouple = networks_decouple }
