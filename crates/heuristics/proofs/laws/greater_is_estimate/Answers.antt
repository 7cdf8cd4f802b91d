use Rattle.heuristics.proofs.SizesBounds.{greater_is_estimate}
use Rattle.heuristics.proofs.laws.greater_is_estimate.Goals as goal

pub returns : goal.returns
returns c = greater_is_estimate
