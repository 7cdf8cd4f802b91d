-- The bounds that see what a configuration lacks are bounds from below.
use Rattle.std.proofs.Common.{ℕ}
use Rattle.htn_model.specs.Problem.{IsGrounded, Problem}
use Rattle.heuristics.specs.Heuristic.{AreDeadEnds, dead_end_bound}
use Rattle.heuristics.proofs.SizesBounds.{dead_ends_are_consistent, greater_is_estimate}
use Rattle.heuristics.specs.Measure.{lower_bound}
use Rattle.heuristics.specs.Sizes.{out_of_reach}
use Rattle.heuristics.proofs.SizesBounded.{dead_ends, measures_are_bounds}
use Rattle.heuristics.specs.NeedsBounds.{is_lost, NeedsAreBounds}
use Rattle.heuristics.specs.Needs.{IsOutlook, Outlook, may_end}
use Rattle.heuristics.proofs.NeedsLasting.{needs_stay}

-- a configuration that lacks what it needs is a dead end
lost_ends : (problem : Problem) (o : Outlook) → IsGrounded problem → IsOutlook problem o → AreDeadEnds problem (is_lost problem o)
lost_ends problem o grounded right =
    let stay = needs_stay problem o grounded right in
    dead_ends problem grounded (may_end problem o) (λ c d number is first ends. stay.step c d number is first ends) (λ c done. stay.done c done)

-- the law
pub needs_are_bounds : NeedsAreBounds
needs_are_bounds problem size cap o grounded measure right =
    greater_is_estimate problem (lower_bound problem size cap) (dead_end_bound out_of_reach (is_lost problem o))
    (measures_are_bounds problem size cap grounded measure)
    (dead_ends_are_consistent problem out_of_reach (is_lost problem o) (lost_ends problem o grounded right))
