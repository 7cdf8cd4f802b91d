-- The search by levels: the configurations that words of one length reach, in the order of the words, of equal ones
-- only the first over all levels.
use Rattle.std.specs.Prelude.{◌≡◌, ℕ, zero, suc, ◌+◌, ◌<◌, ◌≤◌, leb, List, [], ◌∷◌, ◌++◌, map, length, Option, Some, None, Bool, true, cond, ◌&&◌, filter, find, flat_map}
use Rattle.std.specs.List.{list_any}
use Rattle.htn_model.specs.Literal.{holds}
use Rattle.htn_model.specs.Problem.{Child, precondition, action, task, is_before, Network, Problem}
use Rattle.htn_model.specs.Choice.{is_empty, passing, is_free, first_free_compound, child_of}
use Rattle.htn_model.specs.Machine.{Config, start}
use Rattle.htn_model.specs.Answer.{IsLeastWord}

-- a word and the configuration that it reaches
pub record Reached : Type 0 where
  pub word : List ℕ
  pub config : Config

-- whether nothing is open and the goal holds
abbrev pub is_done : Problem → Config → Bool
is_done problem c = is_empty c.open_nodes && holds c.state problem.goal

-- how many numbers a configuration can choose from
abbrev pub method_count : Problem → Child → ℕ
method_count problem (precondition literals) = 0
method_count problem (action g) = 0
method_count problem (task t) = length (problem.methods_of t)

-- how many numbers a step may have: the methods of the compound task at a position, or the free nodes if there is none
abbrev pub choice_count_by : Problem → Config → Option ℕ → ℕ
choice_count_by problem c (Some i) = method_count problem (child_of c.open_nodes i)
choice_count_by problem c None = length (passing (is_free (length c.open_nodes) (is_before c.order)) (length c.open_nodes))

-- how many numbers a step from a configuration may have
abbrev pub choice_count : Problem → Config → ℕ
choice_count problem c = choice_count_by problem c (first_free_compound c.open_nodes (is_before c.order))

-- which numbers a search takes, and what they lead to
abbrev pub Stepping : Type 0
Stepping = Config → ℕ → Option Config

-- one more number, where the configuration has a step by it
abbrev pub reached_by : Reached → ℕ → Option Config → List Reached → List Reached
reached_by r number None rest = rest
reached_by r number (Some c) rest = record { word = r.word ++ number ∷ []; config = c } ∷ rest

-- what the next numbers reach, from one on
abbrev pub successors_from : Stepping → Reached → ℕ → ℕ → List Reached
successors_from step r number zero = []
successors_from step r number (suc count) = reached_by r number (step r.config number) (successors_from step r (suc number) count)

-- what one step leads to, number by number
abbrev pub successors : Problem → Stepping → Reached → List Reached
successors problem step r = successors_from step r 0 (choice_count problem r.config)

-- the initial networks, from a number on
abbrev pub starts : Problem → ℕ → List Network → List Reached
starts problem number [] = []
starts problem number (network ∷ networks) = record { word = number ∷ []; config = start problem network } ∷ starts problem (suc number) networks

-- the steps so far and one for each open node stay within the bound
abbrev pub is_within : ℕ → ℕ → Reached → Bool
is_within bound steps r = leb (steps + length r.config.open_nodes) bound

-- without those whose configuration was seen before
abbrev pub keep_new : (Config → Config → Bool) → List Config → List Reached → List Reached
keep_new same seen [] = []
keep_new same seen (r ∷ rs) = cond (list_any (same r.config) seen) (keep_new same seen rs) (r ∷ keep_new same (r.config ∷ seen) rs)

-- a level, and the configurations of this and all earlier levels
pub record Level : Type 0 where
  pub reached : List Reached
  pub seen : List Config

-- a level of what is reached: what is within the bound and new, the first of equal ones alone
abbrev pub kept_level : (Config → Config → Bool) → ℕ → ℕ → List Config → List Reached → Level
kept_level same bound steps seen rs =
    let kept = keep_new same seen (filter (is_within bound steps) rs) in
    record { reached = kept; seen = map (λ r. r.config) kept ++ seen }

-- the level of this number of steps: the configurations that it reaches first, and all that were seen up to it
abbrev pub level : Problem → Stepping → (Config → Config → Bool) → ℕ → ℕ → Level
level problem step same bound zero = kept_level same bound 0 [] (starts problem 0 problem.initials)
level problem step same bound (suc steps) =
    kept_level same bound (suc steps) (level problem step same bound steps).seen (flat_map (successors problem step) (level problem step same bound steps).reached)

-- the first that is done
abbrev pub first_done : Problem → List Reached → Option Reached
first_done problem rs = find (λ r. is_done problem r.config) rs

-- the first done configuration of the first level that has one is reached by the least word, and where no level has
-- one, no word finishes
pub record LevelsFindLeast (problem : Problem) (step : Stepping) (same : Config → Config → Bool) (bound : ℕ) : Type 0 where
  pub found : (steps : ℕ) (r : Reached) → steps ≤ bound
      → ((earlier : ℕ) → earlier < steps → first_done problem (level problem step same bound earlier).reached ≡ None)
      → first_done problem (level problem step same bound steps).reached ≡ Some r → IsLeastWord problem bound (Some r.word)
  pub none : ((steps : ℕ) → steps ≤ bound → first_done problem (level problem step same bound steps).reached ≡ None) → IsLeastWord problem bound None
  pub ends : (steps : ℕ) → (level problem step same bound steps).reached ≡ [] → (level problem step same bound (suc steps)).reached ≡ []

-- a test holds of equal configurations only
abbrev pub IsSound : (Config → Config → Bool) → Type 0
IsSound same = (c d : Config) → same c d ≡ true → c ≡ d
