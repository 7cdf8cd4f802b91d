-- Heuristics of a problem: lower bounds on the steps that a configuration still takes.
use Rattle.std.specs.Prelude.{◌≡◌, ℕ, ◌+◌, ◌≤◌, Bool, true, false, cond, List, length, max, Some}
use Rattle.htn_model.specs.Problem.{Problem}
use Rattle.htn_model.specs.Machine.{Config, IsDone}
use Rattle.htn_model.specs.Exhaustion.{LeadsLive, live_step}

-- admissible: no word without dead numbers that leads from a configuration to a done one is shorter
abbrev pub IsAdmissible : Problem → (Config → ℕ) → Type 0
IsAdmissible problem low = (word : List ℕ) (c last : Config) → LeadsLive problem word c last → IsDone problem last → low c ≤ length word

-- consistent: no step is left where a configuration is done, and a live step lowers the bound by one at most
pub record IsConsistent (problem : Problem) (low : Config → ℕ) : Type 0 where
  pub done_zero : (c : Config) → IsDone problem c → low c ≡ 0
  pub lowers_one : (c d : Config) (number : ℕ) → live_step problem c number ≡ Some d → low c ≤ low d + 1

-- what a search takes: a consistent bound that is no less than the number of open nodes
pub record IsEstimate (problem : Problem) (low : Config → ℕ) : Type 0 where
  pub consistent : IsConsistent problem low
  pub above_open : (c : Config) → length c.open_nodes ≤ low c

-- the greater one of two bounds
abbrev pub greater : (Config → ℕ) → (Config → ℕ) → Config → ℕ
greater a b c = max (a c) (b c)

-- configurations that are not done, and that a live step never leaves
pub record AreDeadEnds (problem : Problem) (lost : Config → Bool) : Type 0 where
  pub not_done : (c : Config) → IsDone problem c → lost c ≡ false
  pub stays : (c d : Config) (number : ℕ) → live_step problem c number ≡ Some d → lost c ≡ true → lost d ≡ true

-- this many steps where a configuration is a dead end, and none elsewhere
abbrev pub dead_end_bound : ℕ → (Config → Bool) → Config → ℕ
dead_end_bound far lost c = cond (lost c) far 0

-- ## Laws

-- a consistent bound is admissible
abbrev pub ConsistentIsAdmissible : Type 0
ConsistentIsAdmissible = (problem : Problem) (low : Config → ℕ) → IsConsistent problem low → IsAdmissible problem low

-- the number of open nodes is consistent
abbrev pub OpenNodesAreConsistent : Type 0
OpenNodesAreConsistent = (problem : Problem) → IsConsistent problem (λ c. length c.open_nodes)

-- a bound by dead ends is consistent
abbrev pub DeadEndsAreConsistent : Type 0
DeadEndsAreConsistent = (problem : Problem) (far : ℕ) (lost : Config → Bool) → AreDeadEnds problem lost → IsConsistent problem (dead_end_bound far lost)

-- the greater one of two consistent bounds is consistent
abbrev pub GreaterIsConsistent : Type 0
GreaterIsConsistent = (problem : Problem) (a b : Config → ℕ) → IsConsistent problem a → IsConsistent problem b → IsConsistent problem (greater a b)

-- a consistent bound raises an estimate to an estimate
abbrev pub GreaterIsEstimate : Type 0
GreaterIsEstimate = (problem : Problem) (a b : Config → ℕ) → IsEstimate problem a → IsConsistent problem b → IsEstimate problem (greater a b)

-- ## Examples

-- the bound 0 is consistent
abbrev pub NothingIsConsistent : Type 0
NothingIsConsistent = (problem : Problem) → IsConsistent problem (λ c. 0)

-- the bound 1 is not consistent where some configuration is done
abbrev pub OneIsTooMany : Type 0
OneIsTooMany = (problem : Problem) (c : Config) → IsDone problem c → IsConsistent problem (λ d. 1) → ⊥
