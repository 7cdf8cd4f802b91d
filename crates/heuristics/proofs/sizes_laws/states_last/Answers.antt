use Rattle.heuristics.proofs.SizesBounded.{states_last}
use Rattle.heuristics.proofs.sizes_laws.states_last.Goals as goal

pub returns : goal.returns
returns c = states_last
