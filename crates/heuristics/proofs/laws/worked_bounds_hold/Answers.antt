use Rattle.heuristics.proofs.SizesBounds.{nothing_is_consistent, one_is_too_many}
use Rattle.heuristics.proofs.laws.worked_bounds_hold.Goals as goal

pub returns : goal.returns
returns c = record { nothing = nothing_is_consistent; one = one_is_too_many }
