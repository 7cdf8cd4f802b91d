use Rattle.htn_model.proofs.Unique.{verdicts_are_unique}
use Rattle.htn_model.proofs.plans.verdicts_are_unique.Goals as goal

pub returns : goal.returns
returns c = record { unique = verdicts_are_unique }
