-- Lower bounds on the numbers that a word must still have, by a measure on the open nodes.
use Rattle.std.specs.Prelude.{◌≡◌, ◌↔◌, ℕ, ◌+◌, ◌≤◌, Bool, true, false, not, cond, List, length, max, min, Some, slice_get}
use Rattle.std.specs.FinMap.{retain_keys}
use Rattle.std.specs.List.{sum_by}
use Rattle.htn_model.specs.Atom.{Atom}
use Rattle.htn_model.specs.State.{State, contains, state_eq}
use Rattle.htn_model.specs.Literal.{Literal}
use Rattle.htn_model.specs.Problem.{Child, precondition, action, task, GroundTask, IsGrounded, Network, Problem}
use Rattle.htn_model.specs.Machine.{Config}
use Rattle.htn_model.specs.Exhaustion.{is_dead, live_step}
use Rattle.heuristics.specs.Heuristic.{IsEstimate}
use Rattle.task_graph.specs.Barred.{is_barred}

-- a node takes a number itself, and a compound task no more than that and what the nodes of any of its instances take,
-- dead ones apart
pub record IsLowerMeasure (problem : Problem) (size : Child → ℕ) : Type 0 where
  pub positive : (x : Child) → 1 ≤ size x
  pub step : (literals : List Literal) → size (precondition literals) ≤ 1
  pub action : (g : GroundTask) → is_barred problem g ≡ false → size (action g) ≤ 1
  pub task : (g : GroundTask) (number : ℕ) (network : Network) → slice_get (problem.methods_of g) number ≡ Some network
      → is_dead problem network ≡ false → size (task g) ≤ 1 + sum_by size network.children

-- ## States that are reached

-- the true atoms whose predicate no effect names
abbrev pub lasting : Problem → State → State
lasting problem state = retain_keys state (λ a. not (problem.is_changed a.predicate))

-- whether the static atoms of a state are the initial ones
abbrev pub is_as_at_first : Problem → State → Bool
is_as_at_first problem state = state_eq (lasting problem state) (lasting problem problem.initial_state)

-- the test holds exactly there; it holds in the initial state, and after each live step from a configuration for which
-- it holds
pub record StatesLast (problem : Problem) : Type 0 where
  pub told : (state : State)
      → (is_as_at_first problem state ≡ true) ↔ ((a : Atom) → problem.is_changed a.predicate ≡ false → contains state a ≡ contains problem.initial_state a)
  pub first : is_as_at_first problem problem.initial_state ≡ true
  pub stays : (c d : Config) (number : ℕ) → live_step problem c number ≡ Some d → is_as_at_first problem c.state ≡ true → is_as_at_first problem d.state ≡ true

-- ## Bounds

-- the sum of the open nodes' sizes, capped, and at least one for each
abbrev pub estimate : (Child → ℕ) → ℕ → Config → ℕ
estimate size cap c = max (length c.open_nodes) (min (sum_by size c.open_nodes) cap)

-- the capped sum of the open nodes' sizes; for a state that is never reached, only the number of open nodes
abbrev pub lower_bound : Problem → (Child → ℕ) → ℕ → Config → ℕ
lower_bound problem size cap c = cond (is_as_at_first problem c.state) (estimate size cap c) (length c.open_nodes)

-- the bounds by a lower measure are estimates, whatever the cap
abbrev pub MeasuresAreBounds : Type 0
MeasuresAreBounds =
    (problem : Problem) (size : Child → ℕ) (cap : ℕ) → IsGrounded problem → IsLowerMeasure problem size → IsEstimate problem (lower_bound problem size cap)
