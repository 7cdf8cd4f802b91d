-- When the search by levels has left something out because of the bound.
use Rattle.std.specs.Prelude.{◌≡◌, ◌↔◌, ℕ, zero, suc, List, [], flat_map, Some, Bool, true, false, slice_get}
use Rattle.std.specs.List.{list_any}
use Rattle.htn_model.specs.Problem.{Problem}
use Rattle.htn_model.specs.Machine.{Config}
use Rattle.htn_model.specs.Exhaustion.{IsMet, live_step}
use Rattle.htn_model.specs.Levels.{Reached, Stepping, successors, starts, is_within, level}

-- the candidates for a level, before those beyond the bound and those seen before are dropped
abbrev pub candidates : Problem → Stepping → (Config → Config → Bool) → ℕ → ℕ → List Reached
candidates problem step same bound zero = starts problem 0 problem.initials
candidates problem step same bound (suc steps) = flat_map (successors problem step) (level problem step same bound steps).reached

-- the configurations that were seen before the level of this number of steps
abbrev pub seen_before : Problem → Stepping → (Config → Config → Bool) → ℕ → ℕ → List Config
seen_before problem step same bound zero = []
seen_before problem step same bound (suc steps) = (level problem step same bound steps).seen

-- a candidate of some level is beyond the bound, and its configuration was not seen before
pub record LeavesOut (problem : Problem) (step : Stepping) (same : Config → Config → Bool) (bound : ℕ) : Type 0 where
  pub steps : ℕ
  pub position : ℕ
  pub candidate : Reached
  pub stands : slice_get (candidates problem step same bound steps) position ≡ Some candidate
  pub beyond : is_within bound steps candidate ≡ false
  pub unseen : list_any (same candidate.config) (seen_before problem step same bound steps) ≡ false

-- a test holds of equal configurations and of no others
abbrev pub Decides : (Config → Config → Bool) → Type 0
Decides same = (c d : Config) → (same c d ≡ true) ↔ (c ≡ d)

-- the bound is met exactly where the search without dead numbers leaves out a new configuration because of the bound
abbrev pub MetIsLeftOut : Problem → Type 0
MetIsLeftOut problem =
    (same : Config → Config → Bool) (bound : ℕ) → Decides same → IsMet problem bound ↔ LeavesOut problem (live_step problem) same bound
