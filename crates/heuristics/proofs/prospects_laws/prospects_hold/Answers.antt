use Rattle.heuristics.proofs.ProspectsEnding.{prospects_hold}
use Rattle.heuristics.proofs.prospects_laws.prospects_hold.Goals as goal

pub returns : goal.returns
returns c = prospects_hold
