use Rattle.heuristics.proofs.SizesBounds.{dead_ends_are_consistent}
use Rattle.heuristics.proofs.laws.dead_ends_are_consistent.Goals as goal

pub returns : goal.returns
returns c = dead_ends_are_consistent
