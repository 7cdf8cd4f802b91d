use Rattle.heuristics.proofs.SizesBounds.{open_nodes_are_consistent}
use Rattle.heuristics.proofs.laws.open_nodes_are_consistent.Goals as goal

pub returns : goal.returns
returns c = open_nodes_are_consistent
