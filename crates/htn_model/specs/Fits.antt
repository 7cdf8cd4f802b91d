-- How the lines below a line find room between two gaps. Gap i is just before action line i.
use Rattle.std.specs.Prelude.{◌≡◌, ℕ, suc, ◌≤◌, ◌<◌, List, [], ◌∷◌, Some, true, slice_get, ⊤}
use Rattle.htn_model.specs.State.{State}
use Rattle.htn_model.specs.Literal.{Literal, holds}
use Rattle.htn_model.specs.Problem.{GroundTask, Problem, Network, Order, is_before, Child, precondition, action, task}
use Rattle.htn_model.specs.PlanFile.{Word, Naming, IsRearrangementOf}

mutual
  -- the forest that the lines of a file are: an action line with its place among the action lines,
  -- or a decomposition line with its method's name and its children as listed
  pub data PlanTree : Type 0 where
    action_at : GroundTask → ℕ → PlanTree
    decomposition : GroundTask → Word → PlanTrees → PlanTree

  -- a list of plan trees
  pub data PlanTrees : Type 0 where
    no_plans : PlanTrees
    plan : PlanTree → PlanTrees → PlanTrees

-- the node of a network that a plan is below
abbrev pub child_of : PlanTree → Child
child_of (action_at g i) = action g
child_of (decomposition t method plans) = task t

-- the positions of the children other than steps, from position i on
abbrev pub subtask_positions : ℕ → List Child → List ℕ
subtask_positions i [] = []
subtask_positions i (precondition literals ∷ children) = subtask_positions (suc i) children
subtask_positions i (action g ∷ children) = i ∷ subtask_positions (suc i) children
subtask_positions i (task t ∷ children) = i ∷ subtask_positions (suc i) children

-- each of the plans is at its position the network's child
abbrev pub StandAt : List Child → List ℕ → PlanTrees → Type 0
StandAt children positions no_plans = positions ≡ []
StandAt children [] (plan p plans) = ⊥
StandAt children (a ∷ positions) (plan p plans) = (slice_get children a ≡ Some (child_of p)) × StandAt children positions plans

-- the plans are the network's subtasks, each once
pub record IsMatching (children : List Child) (positions : List ℕ) (plans : PlanTrees) : Type 0 where
  pub each_once : IsRearrangementOf positions (subtask_positions 0 children)
  pub stand : StandAt children positions plans

-- each position has a span of gaps from `start` to `finish`, and what is before another has finished where that starts
pub record AreSpans (order : Order) (start finish : ℕ → ℕ) (g h : ℕ) : Type 0 where
  pub from : (a : ℕ) → g ≤ start a
  pub to : (a : ℕ) → finish a ≤ h
  pub forward : (a : ℕ) → start a ≤ finish a
  pub ordered : (a b : ℕ) → is_before order a b ≡ true → finish a ≤ start b

-- the literals hold in one of the gaps from g to h
abbrev pub StepFits : (ℕ → State) → List Literal → ℕ → ℕ → Type 0
StepFits states literals g h = (gap : ℕ) × (g ≤ gap) × (gap ≤ h) × (holds (states gap) literals ≡ true)

-- each precondition of the network holds somewhere from its start to its finish
abbrev pub StepsFit : (ℕ → State) → List Child → (start finish : ℕ → ℕ) → Type 0
StepsFit states children start finish =
    (a : ℕ) (literals : List Literal) → slice_get children a ≡ Some (precondition literals) → StepFits states literals (start a) (finish a)

-- the plans, matched to the network's subtasks, and the network's steps have room, where `AllHaveRoom` says it of the
-- plans at their spans
abbrev pub HasRoom : (ℕ → State) → Network → PlanTrees → (AllHaveRoom : List ℕ → (ℕ → ℕ) → (ℕ → ℕ) → Type 0) → ℕ → ℕ → Type 0
HasRoom states network plans AllHaveRoom g h =
    (positions : List ℕ) × IsMatching network.children positions plans × (start : ℕ → ℕ) × (finish : ℕ → ℕ) × AreSpans network.order start finish g h
    × StepsFit states network.children start finish × AllHaveRoom positions start finish

abbrev mutual
  -- everything below the line has room from gap g to gap h
  pub Fits : Naming → Problem → (ℕ → State) → PlanTree → ℕ → ℕ → Type 0
  Fits naming problem states (action_at named i) g h = (g ≤ i) × (i < h)
  Fits naming problem states (decomposition t method plans) g h =
      (number : ℕ) × (network : Network) × (slice_get (problem.methods_of t) number ≡ Some network) × (method ≡ naming.method_name t number)
      × HasRoom states network plans (λ positions start finish. AllFit naming problem states positions plans start finish) g h

  -- the plans at these positions have room in the spans of their positions
  pub AllFit : Naming → Problem → (ℕ → State) → List ℕ → PlanTrees → (start finish : ℕ → ℕ) → Type 0
  AllFit naming problem states positions no_plans start finish = ⊤
  AllFit naming problem states [] (plan p plans) start finish = ⊥
  AllFit naming problem states (a ∷ positions) (plan p plans) start finish =
      Fits naming problem states p (start a) (finish a) × AllFit naming problem states positions plans start finish

-- the plans have room from gap g to gap h as the nodes of the network, in its order and with its preconditions
abbrev pub NetworkFits : Naming → Problem → (ℕ → State) → Network → PlanTrees → ℕ → ℕ → Type 0
NetworkFits naming problem states network plans g h =
    HasRoom states network plans (λ positions start finish. AllFit naming problem states positions plans start finish) g h

-- the roots' lines have room in the whole plan of n action lines
abbrev pub ForestFits : Naming → Problem → (ℕ → State) → PlanTrees → ℕ → Type 0
ForestFits naming problem states plans n =
    (number : ℕ) × (network : Network) × (slice_get problem.initials number ≡ Some network) × NetworkFits naming problem states network plans 0 n

-- h is the first gap at which everything below the line can have finished, if it may start at g
pub record IsEarliest (naming : Naming) (problem : Problem) (states : ℕ → State) (p : PlanTree) (g h : ℕ) : Type 0 where
  pub fits : Fits naming problem states p g h
  pub least : (k : ℕ) → Fits naming problem states p g k → h ≤ k
