-- The run of ground tasks, and what is true in the gaps between them.
use Rattle.std.specs.Prelude.{◌≡◌, ℕ, ◌≤◌, List, [], ◌∷◌, length, take, Option, Some, None, option_and_then, slice_get}
use Rattle.htn_model.specs.Atom.{Atom}
use Rattle.htn_model.specs.State.{State, contains}
use Rattle.htn_model.specs.Problem.{GroundTask, Problem, perform_action}
use Rattle.plan_lines.specs.Turns.{History, IsHistory, truth}
use Rattle.plan_lines.specs.declared.course.Outcome.{Outcome}
use Rattle.plan_lines.specs.declared.course.Outcome.TheVariants.{Fails, Runs}

-- the state after these, where each is an action whose literals hold when it comes
abbrev pub run_tasks : Problem → State → List GroundTask → Option State
run_tasks problem state [] = Some state
run_tasks problem state (g ∷ tasks) = option_and_then (λ next. run_tasks problem next tasks) (perform_action state (problem.action_of g))

-- the history is that of the run: gap k is the one after k tasks
pub record IsHistoryOf (problem : Problem) (tasks : List GroundTask) (h : History) : Type 0 where
  pub history : IsHistory h
  pub initial : h.initial ≡ problem.initial_state
  pub last : h.last ≡ length tasks
  pub each : (k : ℕ) → k ≤ length tasks
      → (state : State) × (run_tasks problem problem.initial_state (take k tasks) ≡ Some state) × ((a : Atom) → contains state a ≡ truth h a k)

-- the first task that can't be done when it comes
pub record IsFailing (problem : Problem) (tasks : List GroundTask) (i : ℕ) : Type 0 where
  pub state : State
  pub reaches : run_tasks problem problem.initial_state (take i tasks) ≡ Some state
  pub task : GroundTask
  pub is : slice_get tasks i ≡ Some task
  pub fails : perform_action state (problem.action_of task) ≡ None

-- what the outcome of a run says
abbrev pub IsOutcome : Problem → List GroundTask → Outcome → Type 0
IsOutcome problem tasks (Fails i) = IsFailing problem tasks i
IsOutcome problem tasks (Runs turns) = IsHistoryOf problem tasks turns
