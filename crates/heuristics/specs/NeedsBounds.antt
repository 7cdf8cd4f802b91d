-- Lower bounds that are past every bound where a configuration never ends by its needs.
use Rattle.std.specs.Prelude.{ℕ, Bool, not, ◌&&◌, cond, max}
use Rattle.htn_model.specs.Problem.{Child, IsGrounded, Problem}
use Rattle.htn_model.specs.Machine.{Config}
use Rattle.heuristics.specs.Heuristic.{IsEstimate}
use Rattle.heuristics.specs.Measure.{IsLowerMeasure, is_as_at_first, lower_bound}
use Rattle.heuristics.specs.Sizes.{out_of_reach}
use Rattle.heuristics.specs.Needs.{IsOutlook, Outlook, may_end}

-- whether a configuration never ends: its static atoms are the initial ones, and it may not end by its needs
abbrev pub is_lost : Problem → Outlook → Config → Bool
is_lost problem o c = is_as_at_first problem c.state && not (may_end problem o c)

-- the bound by a measure, but past the greatest bound where a configuration never ends
abbrev pub needs_bound : Problem → (Child → ℕ) → ℕ → Outlook → Config → ℕ
needs_bound problem size cap o c = max (lower_bound problem size cap c) (cond (is_lost problem o c) out_of_reach 0)

-- the bounds by a lower measure and an outlook are estimates
abbrev pub NeedsAreBounds : Type 0
NeedsAreBounds =
    (problem : Problem) (size : Child → ℕ) (cap : ℕ) (o : Outlook) → IsGrounded problem → IsLowerMeasure problem size → IsOutlook problem o
    → IsEstimate problem (needs_bound problem size cap o)
