-- Spans found greedily: each position starts as soon as what is before it has finished, and finishes as early as it
-- can.
use Rattle.std.specs.Prelude.{◌≡◌, ◌↔◌, ℕ, suc, ◌≤◌, ◌<◌, List, [], ◌∷◌, ◌⊎◌, Some, true, slice_get, ⊤}
use Rattle.htn_model.specs.State.{State}
use Rattle.htn_model.specs.Literal.{Literal}
use Rattle.htn_model.specs.Problem.{GroundTask, Problem, Network, IsNetwork, is_before, precondition}
use Rattle.htn_model.specs.PlanFile.{Word, Naming}
use Rattle.htn_model.specs.Fits.{PlanTree, action_at, decomposition, PlanTrees, no_plans, plan, IsMatching, AreSpans, StepFits, StepsFit, Fits, AllFit, NetworkFits, IsEarliest}

-- the plan that is matched to the position has room
abbrev pub PlanHasRoom : Naming → Problem → (ℕ → State) → List ℕ → PlanTrees → ℕ → ℕ → ℕ → Type 0
PlanHasRoom naming problem states positions no_plans a x y = ⊤
PlanHasRoom naming problem states [] (plan p plans) a x y = ⊤
PlanHasRoom naming problem states (b ∷ positions) (plan p plans) a x y = (a ≡ b → Fits naming problem states p x y) × PlanHasRoom naming problem states positions plans a x y

module _ (naming : Naming) (problem : Problem) (states : ℕ → State) (network : Network) (positions : List ℕ) (plans : PlanTrees) where
  -- the node at the position has room from gap x to gap y
  pub record HasRoomAt (a x y : ℕ) : Type 0 where
    pub forward : x ≤ y
    pub step : (literals : List Literal) → slice_get network.children a ≡ Some (precondition literals) → StepFits states literals x y
    pub plan : PlanHasRoom naming problem states positions plans a x y

  -- y is the first gap at which a position that starts at x can have finished
  pub record IsEarliestAt (a x y : ℕ) : Type 0 where
    pub room : HasRoomAt a x y
    pub least : (k : ℕ) → HasRoomAt a x k → y ≤ k

  -- from gap g on
  pub record IsGreedy (g : ℕ) (start finish : ℕ → ℕ) : Type 0 where
    pub from : (a : ℕ) → g ≤ start a
    pub after : (a b : ℕ) → is_before network.order b a ≡ true → finish b ≤ start a
    pub soonest : (a k : ℕ) → g ≤ k → ((b : ℕ) → is_before network.order b a ≡ true → finish b ≤ k) → start a ≤ k
    pub earliest : (a : ℕ) → IsEarliestAt a (start a) (finish a)

  -- any spans of the plans at these positions
  pub record HaveSpans (g h : ℕ) (start finish : ℕ → ℕ) : Type 0 where
    pub spans : AreSpans network.order start finish g h
    pub steps : StepsFit states network.children start finish
    pub fits : AllFit naming problem states positions plans start finish

  -- for each start the earliest finish, or that there is none up to gap n
  abbrev pub Tables : ℕ → Type 0
  Tables n = (a x : ℕ) → ((y : ℕ) × IsEarliestAt a x y) ⊎ ((k : ℕ) → k ≤ n → HasRoomAt a x k → ⊥)

  -- the greedy spans have room exactly where some spans have
  pub record GreedyDecides : Type 0 where
    -- greedy spans are spans up to each gap by which all have finished
    pub fit : (g h : ℕ) (start finish : ℕ → ℕ) → IsMatching network.children positions plans → IsGreedy g start finish → ((a : ℕ) → finish a ≤ h)
        → NetworkFits naming problem states network plans g h
    -- no other spans finish earlier anywhere
    pub least : (g h : ℕ) (start finish other_start other_finish : ℕ → ℕ) → IsMatching network.children positions plans → IsGreedy g start finish
        → HaveSpans g h other_start other_finish → (a : ℕ) → finish a ≤ other_finish a
    -- there are greedy spans, unless there are no spans at all
    pub exist : (g n : ℕ) → IsMatching network.children positions plans → Tables n
        → ((start : ℕ → ℕ) × (finish : ℕ → ℕ) × IsGreedy g start finish) ⊎ ((h : ℕ) (start finish : ℕ → ℕ) → h ≤ n → HaveSpans g h start finish → ⊥)

-- for each start the earliest finish of a line, or that there is none up to gap n
abbrev pub LineTable : Naming → Problem → (ℕ → State) → ℕ → PlanTree → Type 0
LineTable naming problem states n p = (x : ℕ) → ((y : ℕ) × IsEarliest naming problem states p x y) ⊎ ((k : ℕ) → k ≤ n → Fits naming problem states p x k → ⊥)

-- each of the plans has a table
abbrev pub LineTables : Naming → Problem → (ℕ → State) → ℕ → PlanTrees → Type 0
LineTables naming problem states n no_plans = ⊤
LineTables naming problem states n (plan p plans) = LineTable naming problem states n p × LineTables naming problem states n plans

-- for some matching there are greedy spans, all of which have finished by gap h
abbrev pub FitsGreedily : Naming → Problem → (ℕ → State) → Network → PlanTrees → ℕ → ℕ → Type 0
FitsGreedily naming problem states network plans g h =
    (positions : List ℕ) × IsMatching network.children positions plans × (start : ℕ → ℕ) × (finish : ℕ → ℕ)
    × IsGreedy naming problem states network positions plans g start finish × ((a : ℕ) → finish a ≤ h)

-- the greedy spans decide for each network and for each line
pub record GreedySpansDecide (naming : Naming) (problem : Problem) : Type 0 where
  pub at_positions : (states : ℕ → State) (network : Network) (positions : List ℕ) (plans : PlanTrees) → IsNetwork network
      → GreedyDecides naming problem states network positions plans
  -- the tables of the lines give those of a network's positions
  pub tables : (states : ℕ → State) (network : Network) (positions : List ℕ) (plans : PlanTrees) (n : ℕ) → LineTables naming problem states n plans
      → Tables naming problem states network positions plans n
  -- the plans have room in the network exactly where greedy spans have
  pub greedily : (states : ℕ → State) (network : Network) (plans : PlanTrees) (n g h : ℕ) → IsNetwork network → LineTables naming problem states n plans → h ≤ n
      → NetworkFits naming problem states network plans g h ↔ FitsGreedily naming problem states network plans g h

-- the least that greedy spans reach, over the instances of the line's method and their matchings, is the line's
-- earliest finish
pub record LinesDecide (naming : Naming) (problem : Problem) : Type 0 where
  pub some : (states : ℕ → State) (t : GroundTask) (method : Word) (plans : PlanTrees) (n g h number : ℕ) (network : Network) → LineTables naming problem states n plans → h ≤ n
      → slice_get (problem.methods_of t) number ≡ Some network → method ≡ naming.method_name t number → FitsGreedily naming problem states network plans g h
      → ((k other : ℕ) (inner : Network) → k ≤ n → slice_get (problem.methods_of t) other ≡ Some inner → method ≡ naming.method_name t other
      → FitsGreedily naming problem states inner plans g k → h ≤ k)
      → IsEarliest naming problem states (decomposition t method plans) g h
  pub none : (states : ℕ → State) (t : GroundTask) (method : Word) (plans : PlanTrees) (n g : ℕ) → LineTables naming problem states n plans
      → ((k other : ℕ) (inner : Network) → k ≤ n → slice_get (problem.methods_of t) other ≡ Some inner → method ≡ naming.method_name t other
      → FitsGreedily naming problem states inner plans g k → ⊥)
      → (k : ℕ) → k ≤ n → Fits naming problem states (decomposition t method plans) g k → ⊥
  -- no line has room backwards, and an action line has it from each gap up to its own to each after that
  pub forward : (states : ℕ → State) (p : PlanTree) (g h : ℕ) → Fits naming problem states p g h → g ≤ h
  pub action : (states : ℕ → State) (t : GroundTask) (i g : ℕ) → g ≤ i → IsEarliest naming problem states (action_at t i) g (suc i)
  pub past_action : (states : ℕ → State) (t : GroundTask) (i g h : ℕ) → i < g → Fits naming problem states (action_at t i) g h → ⊥
