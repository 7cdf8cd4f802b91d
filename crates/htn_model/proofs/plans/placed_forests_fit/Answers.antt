use Rattle.htn_model.proofs.Shaded.{placed_forests_fit}
use Rattle.htn_model.proofs.plans.placed_forests_fit.Goals as goal

pub returns : goal.returns
returns c = record { fit = placed_forests_fit }
