use Rattle.htn_model.proofs.Numbered.{numbered_is_shadow}
use Rattle.htn_model.proofs.plans.numbered_is_shadow.Goals as goal

pub returns : goal.returns
returns c = record { shadow = numbered_is_shadow }
