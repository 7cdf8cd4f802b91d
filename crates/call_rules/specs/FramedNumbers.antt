-- What a program checks of calls and values in frames by the numbers of states and nodes, and the bound that it then
-- has.
use Rattle.std.specs.Prelude.{◌≡◌, ℕ, ◌≤◌, List, map, Bool, true, cond, Some}
use Rattle.std.specs.List.{sum_by}
use Rattle.htn_model.specs.Grounding.{problem_of}
use Rattle.htn_model.specs.Machine.{Config}
use Rattle.htn_model.specs.Problem.{Child, Network}
use Rattle.htn_model.specs.State.{State}
use Rattle.htn_model.specs.Task.{Task}
use Rattle.word_machine.specs.Certificate.{IsBelow}
use Rattle.htn_calls.specs.Calls.{Rule, Rules, Table, estimate}
use Rattle.htn_calls.specs.Numbered.{rule_of}
use Rattle.htn_calls.specs.Series.{opened}
use Rattle.htn_calls.specs.Bounds.{is_goal}
use Rattle.htn_calls.specs.Ordered.{ordered, lone}
use Rattle.htn_walk.specs.Listed.{listing_machine}
use Rattle.call_rules.specs.Frame.{Frame}
use Rattle.call_rules.specs.Local.{are_literals_in, IsFrameOf}
use Rattle.call_rules.specs.Framed.{IsPart, framed, AreFramedSites}
use Rattle.call_rules.specs.Closed.{AreClosedIn}
use Rattle.call_rules.specs.Lifted.{AreLifted}
use Rattle.call_rules.specs.FramedValues.{list_frame, AreValuesIn}
use Rattle.call_rules.specs.Lone.{node_rules}
use Rattle.call_rules.specs.Bounds.{IsKept, IsStepSize, size_sum, bound_by}

module _ (t : Task) (passes : State → Bool) (size : Child → ℕ) (state : ℕ → State) (node : ℕ → Child)
    (frame : ℕ → Frame) (goal_frame : Frame) (numbers : Rules ℕ ℕ) (listing : Table ℕ ℕ) (sites : List (ℕ × ℕ))
    (total : List ℕ → ℕ) (cap : ℕ) (value : List ℕ → ℕ → ℕ) where
  -- the block of a node's number
  abbrev pub lone_at : ℕ → Network
  lone_at number = lone (node number)

  -- the rules are those of nodes, whose frames have all that they read or write, as that of the goal has what it reads;
  -- the calls are at sites that are apart, no nodes have smaller sizes than they are counted with, and by these counts
  -- the calls are closed in their frames, and the values are supported by them
  pub record AreFramedNumbersChecked : Type 0 where
    pub ruled : (i j : ℕ) (rs : List (Rule ℕ ℕ)) → numbers i j ≡ Some rs
        → node_rules t (state i) (node j) ≡ Some (map (rule_of state lone_at) rs)
    pub reads : (i j : ℕ) (rs : List (Rule ℕ ℕ)) → numbers i j ≡ Some rs → IsFrameOf (problem_of t) (node j) (frame j)
    pub goal : are_literals_in goal_frame (problem_of t).goal ≡ true
    pub at_sites : AreFramedSites state lone_at frame listing sites
    pub counted : (blocks : List ℕ) → total blocks ≤ sum_by size (map node blocks)
    pub closed : AreClosedIn state frame numbers listing total
    pub valued : AreValuesIn state frame goal_frame listing total (is_goal (problem_of t)) cap value

  -- the bound of a configuration by the calls, lifted
  abbrev pub bound_by_framed : Config → ℕ
  bound_by_framed =
      bound_by t passes (framed state lone_at frame listing sites) (λ s. size_sum size) (size_sum size) cap

  -- it is admissible, and where a totally ordered network is open no less than its value in the part of the state that
  -- it and the goal look at, nor than the estimate by calls in whole states that are lifted
  pub record HaveFramedBound : Type 0 where
    pub below : IsBelow (listing_machine t) bound_by_framed
    pub above_values : (i : ℕ) (blocks : List ℕ) (s : State) → passes s ≡ true
        → IsPart (list_frame frame goal_frame blocks) s (state i)
        → value blocks i ≤ bound_by_framed (opened s (ordered (map node blocks)))
    pub above_lifted : (whole : Table ℕ ℕ) (ends : ℕ → Bool) → AreLifted state lone_at frame listing whole
        → ((i : ℕ) → cond (ends i) 0 cap ≤ cond (is_goal (problem_of t) (state i)) 0 cap) → (i : ℕ) (blocks : List ℕ)
        → passes (state i) ≡ true
        → estimate whole (λ k. total) total ends cap blocks i
        ≤ bound_by_framed (opened (state i) (ordered (map node blocks)))

  -- so it is where the numbers are checked, and a step lowers the sizes by one at most
  abbrev pub FramedNumbersBound : Type 0
  FramedNumbersBound = IsKept t passes → IsStepSize t passes size → AreFramedNumbersChecked → HaveFramedBound
