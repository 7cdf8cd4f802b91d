use Rattle.heuristics.proofs.SizesBounds.{consistent_is_admissible}
use Rattle.heuristics.proofs.laws.consistent_is_admissible.Goals as goal

pub returns : goal.returns
returns c = consistent_is_admissible
