use Rattle.heuristics.proofs.SizesBounded.{measures_are_bounds}
use Rattle.heuristics.proofs.sizes_laws.measures_are_bounds.Goals as goal

pub returns : goal.returns
returns c = measures_are_bounds
