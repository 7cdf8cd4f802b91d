use Rattle.heuristics.proofs.SizesBounds.{greater_is_consistent}
use Rattle.heuristics.proofs.laws.greater_is_consistent.Goals as goal

pub returns : goal.returns
returns c = greater_is_consistent
