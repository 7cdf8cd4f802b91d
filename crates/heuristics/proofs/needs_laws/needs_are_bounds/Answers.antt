use Rattle.heuristics.proofs.NeedsBounded.{needs_are_bounds}
use Rattle.heuristics.proofs.needs_laws.needs_are_bounds.Goals as goal

pub returns : goal.returns
returns c = needs_are_bounds
