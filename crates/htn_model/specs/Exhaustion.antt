-- Numbers that no finishing word has, and when none within a bound means none at all.
use Rattle.std.specs.Prelude.{◌≡◌, ℕ, ◌+◌, ◌≤◌, ◌↔◌, List, [], ◌∷◌, length, Bool, false, not, ◌&&◌, Some, None, slice_get, Option, cond, option_and_then}
use Rattle.std.specs.List.{list_any}
use Rattle.htn_model.specs.Literal.{Literal, atom, equality, literal_holds}
use Rattle.htn_model.specs.Problem.{Child, precondition, action, task, Network, Problem}
use Rattle.htn_model.specs.Tree.{Solution, IsSolution}
use Rattle.htn_model.specs.Machine.{Config, Choice, choose, result_of, start, IsDone, Finishes}
use Rattle.htn_model.specs.Answer.{IsAnswer}

-- whether a literal is dead: it is false in the initial state and no effect names its predicate, or it is a false
-- equality
abbrev pub is_dead_literal : Problem → Literal → Bool
is_dead_literal problem (atom positive a) = not (problem.is_changed a.predicate) && not (literal_holds problem.initial_state (atom positive a))
is_dead_literal problem (equality positive x y) = not (literal_holds problem.initial_state (equality positive x y))

-- whether a node is a precondition with a dead literal
abbrev pub is_dead_child : Problem → Child → Bool
is_dead_child problem (precondition literals) = list_any (is_dead_literal problem) literals
is_dead_child problem (action g) = false
is_dead_child problem (task t) = false

-- whether an instance is dead: its precondition step has a dead literal
abbrev pub is_dead : Problem → Network → Bool
is_dead problem network = list_any (is_dead_child problem) network.children

-- numbers, none of them dead, that lead one configuration to another
abbrev pub LeadsLive : Problem → List ℕ → Config → Config → Type 0
LeadsLive problem [] c last = c ≡ last
LeadsLive problem (number ∷ word) c last =
    (choice : Choice) × (choose problem c number ≡ Some choice) × (is_dead problem choice.network ≡ false) × LeadsLive problem word (result_of c choice) last

-- a configuration is reached from an initial network in this number of steps, none of them dead
pub record Reaches (problem : Problem) (steps : ℕ) (c : Config) : Type 0 where
  pub number : ℕ
  pub network : Network
  pub is_initial : slice_get problem.initials number ≡ Some network
  pub word : List ℕ
  pub long : length word ≡ steps
  pub leads : LeadsLive problem word (start problem network) c

-- the bound is met: some configuration is reached, and in no number of steps that leaves its open nodes within the
-- bound
pub record IsMet (problem : Problem) (bound : ℕ) : Type 0 where
  pub config : Config
  pub steps : ℕ
  pub reached : Reaches problem steps config
  pub beyond : (m : ℕ) → Reaches problem m config → m + length config.open_nodes ≤ bound → ⊥

-- a problem has no solution of any size
abbrev pub IsUnsolvable : Problem → Type 0
IsUnsolvable problem = (s : Solution) → IsSolution problem s → ⊥

-- where the bound is not met, no answer within it means no solution at all
abbrev pub ExhaustionDecides : Problem → Type 0
ExhaustionDecides problem = (bound : ℕ) → (IsMet problem bound → ⊥) → IsAnswer problem bound None → IsUnsolvable problem

-- a word finishes, and none of its numbers is dead
abbrev pub FinishesLive : Problem → List ℕ → Type 0
FinishesLive problem [] = ⊥
FinishesLive problem (number ∷ word) =
    (network : Network)
    × (last : Config)
    × (slice_get problem.initials number ≡ Some network)
    × LeadsLive problem word (start problem network) last
    × IsDone problem last

-- a word finishes exactly where it finishes without a dead instance
abbrev pub DeadNumbersNeverFinish : Problem → Type 0
DeadNumbersNeverFinish problem = (word : List ℕ) → Finishes problem word ↔ FinishesLive problem word

-- the step of a number that is not dead
abbrev pub live_step : Problem → Config → ℕ → Option Config
live_step problem c number =
    option_and_then (λ choice. cond (is_dead problem choice.network) None (Some (result_of c choice))) (choose problem c number)
