-- When a tree with its slots is what the lines below a line show.
use Rattle.std.specs.Prelude.{◌≡◌, ℕ, List, [], ◌∷◌, Some, slice_get, ⊤}
use Rattle.htn_model.specs.State.{State}
use Rattle.htn_model.specs.Problem.{Problem, Network}
use Rattle.htn_model.specs.Decoupling.{ForestKeeps}
use Rattle.htn_model.specs.Tree.{Node, leaf, compound, Nodes, roots, child_at, AreTrees}
use Rattle.htn_model.specs.PlanFile.{Naming}
use Rattle.htn_model.specs.Fits.{PlanTree, action_at, decomposition, PlanTrees, no_plans, plan, IsMatching, ForestFits}
use Rattle.htn_model.specs.Placement.{Slots}

abbrev mutual
  -- a tree of which the lines show all but its steps, at these gaps
  pub Shades : Naming → Slots → Node → PlanTree → Type 0
  Shades naming slots n (action_at g i) = (n ≡ leaf g) × (slots [] ≡ i)
  Shades naming slots n (decomposition t method plans) =
      (number : ℕ) × (nodes : Nodes) × (n ≡ compound t number nodes) × (method ≡ naming.method_name t number)
      × (positions : List ℕ) × IsMatching (roots nodes) positions plans × AllShade naming slots nodes positions plans

  -- the children at these positions are what the plans show
  pub AllShade : Naming → Slots → Nodes → List ℕ → PlanTrees → Type 0
  AllShade naming slots nodes positions no_plans = ⊤
  AllShade naming slots nodes [] (plan p plans) = ⊥
  AllShade naming slots nodes (a ∷ positions) (plan p plans) =
      (m : Node) × (child_at nodes a ≡ Some m) × Shades naming (λ q. slots (a ∷ q)) m p × AllShade naming slots nodes positions plans

-- a forest of an initial network, placed among n action lines in its order, that shades the roots' lines, shows that
-- they have room
abbrev pub PlacedForestsFit : Naming → Problem → Type 0
PlacedForestsFit naming problem =
    (states : ℕ → State) (slots : Slots) (number : ℕ) (network : Network) (trees : Nodes) (positions : List ℕ) (plans : PlanTrees) (n : ℕ)
    → slice_get problem.initials number ≡ Some network → roots trees ≡ network.children → AreTrees problem trees
    → IsMatching (roots trees) positions plans → AllShade naming slots trees positions plans
    → ForestKeeps problem states slots network.order trees n → ForestFits naming problem states plans n
