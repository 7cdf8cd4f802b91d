use Rattle.htn_model.proofs.Forests.{earliest_shows_all}
use Rattle.htn_model.proofs.plans.earliest_shows_all.Goals as goal

pub returns : goal.returns
returns c = record { shows = earliest_shows_all }
