use Rattle.heuristics.proofs.NeedsLasting.{needs_stay}
use Rattle.heuristics.proofs.needs_laws.needs_stay.Goals as goal

pub returns : goal.returns
returns c = needs_stay
