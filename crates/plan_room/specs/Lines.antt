-- The lines of a plan file: what each is with all below it, its children, and the states between the action lines.
use Rattle.std.specs.Prelude.{◌≡◌, ℕ, ◌≤◌, ◌<◌, List, [], ◌∷◌, All, map, Option, Some, None, true, false, slice_get}
use Rattle.htn_model.specs.State.{State}
use Rattle.htn_model.specs.Literal.{Literal, holds}
use Rattle.htn_model.specs.Instance.{Instance}
use Rattle.htn_model.specs.Problem.{GroundTask, Problem, Network, IsGrounded}
use Rattle.htn_model.specs.PlanFile.{Word, Naming, IsIn}
use Rattle.htn_model.specs.Fits.{PlanTree, action_at, decomposition, PlanTrees, no_plans, plan, NetworkFits, ForestFits}

-- the lines of a plan file with what is known of them
pub record Lines : Type 0 where
  pub naming : Naming
  pub problem : Problem
  -- the state in each gap
  pub states : ℕ → State
  -- lines below this number are action lines, in their order; the gaps are 0 to it
  pub actions : ℕ
  -- the lines have the numbers below this one
  pub count : ℕ
  -- what a line and all below it are
  pub plan_of : ℕ → PlanTree
  -- the children of a decomposition line, as listed
  pub children : ℕ → List ℕ
  pub roots : List ℕ

-- the plan trees of lines
abbrev pub plans_of : (ℕ → PlanTree) → List ℕ → PlanTrees
plans_of plan_of [] = no_plans
plans_of plan_of (line ∷ lines) = plan (plan_of line) (plans_of plan_of lines)

-- the task of a plan tree
abbrev pub task_of : PlanTree → GroundTask
task_of (action_at g i) = g
task_of (decomposition t method plans) = t

-- the line is a decomposition line
abbrev pub IsDecompositionLine : Lines → ℕ → Type 0
IsDecompositionLine l i = (l.actions ≤ i) × (i < l.count)

-- what is known of lines that have plans
pub record AreLines (l : Lines) : Type 0 where
  pub grounded : IsGrounded l.problem
  pub first : l.actions ≤ l.count
  pub action_lines : (i : ℕ) → i < l.actions → l.plan_of i ≡ action_at (task_of (l.plan_of i)) i
  pub decomposition_lines : (i : ℕ) → l.actions ≤ i → i < l.count → (t : GroundTask) × (method : Word) × (l.plan_of i ≡ decomposition t method (plans_of l.plan_of (l.children i)))
  pub children_low : (i : ℕ) → l.actions ≤ i → i < l.count → All (λ c. c < l.count) (l.children i)
  pub roots_low : All (λ c. c < l.count) l.roots

-- the lines have room in the whole plan
abbrev pub FileFits : Lines → Type 0
FileFits l = ForestFits l.naming l.problem l.states (plans_of l.plan_of l.roots) l.actions

-- an instance of the line's method
abbrev pub IsNetworkOf : Lines → ℕ → Network → Type 0
IsNetworkOf l i network = (t : GroundTask) × (method : Word) × (plans : PlanTrees) × (number : ℕ) × (l.plan_of i ≡ decomposition t method plans)
    × (slice_get (l.problem.methods_of t) number ≡ Some network) × (method ≡ l.naming.method_name t number)

-- the network is an initial one
abbrev pub IsInitial : Lines → Network → Type 0
IsInitial l network = (number : ℕ) × (slice_get l.problem.initials number ≡ Some network)

-- nothing but such networks, and all of those that have room anywhere
pub record AreCandidates (l : Lines) (IsOne : Network → Type 0) (children : List ℕ) (networks : List Network) : Type 0 where
  pub each : (network : Network) → IsIn network networks → IsOne network
  pub all : (network : Network) → IsOne network → (g h : ℕ) → h ≤ l.actions → NetworkFits l.naming l.problem l.states network (plans_of l.plan_of children) g h
      → IsIn network networks

-- the networks of instances
abbrev pub networks_of : List Instance → List Network
networks_of instances = map (λ i. i.network) instances

-- the first gap from one on in which the literals hold, or none up to the last
abbrev pub IsNextGap : (ℕ → State) → ℕ → List Literal → ℕ → Option ℕ → Type 0
IsNextGap states n literals from None = (k : ℕ) → from ≤ k → k ≤ n → holds (states k) literals ≡ false
IsNextGap states n literals from (Some h) =
    (from ≤ h) × (h ≤ n) × (holds (states h) literals ≡ true) × ((k : ℕ) → from ≤ k → k < h → holds (states k) literals ≡ false)
