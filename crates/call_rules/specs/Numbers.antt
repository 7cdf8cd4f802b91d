-- What a program checks of a table by the numbers of states and nodes, and the bound that it then has.
use Rattle.std.specs.Prelude.{◌≡◌, ℕ, ◌≤◌, List, map, Bool, true, Some}
use Rattle.std.specs.List.{sum_by}
use Rattle.htn_model.specs.Grounding.{problem_of}
use Rattle.htn_model.specs.Machine.{Config}
use Rattle.htn_model.specs.Problem.{Child, Network}
use Rattle.htn_model.specs.State.{State}
use Rattle.htn_model.specs.Task.{Task}
use Rattle.word_machine.specs.Certificate.{IsBelow}
use Rattle.htn_calls.specs.Calls.{Rule, Rules, Table}
use Rattle.htn_calls.specs.Closed.{AreClosed}
use Rattle.htn_calls.specs.Numbered.{rule_of}
use Rattle.htn_calls.specs.Series.{opened}
use Rattle.htn_calls.specs.Bounds.{is_goal}
use Rattle.htn_calls.specs.Ordered.{ordered, lone}
use Rattle.htn_walk.specs.Listed.{listing_machine}
use Rattle.call_rules.specs.Lone.{node_rules}
use Rattle.call_rules.specs.Bounds.{IsKept, IsStepSize, size_sum, bound_by}
use Rattle.call_rules.specs.Tables.{table_of, AreSites}
use Rattle.call_rules.specs.Values.{AreValues}

module _ (t : Task) (passes : State → Bool) (size : Child → ℕ) (state : ℕ → State) (node : ℕ → Child)
    (numbers : Rules ℕ ℕ) (listing : Table ℕ ℕ) (sites : List (ℕ × ℕ)) (total : List ℕ → ℕ) (cap : ℕ)
    (value : List ℕ → ℕ → ℕ) where
  -- the block of a node's number
  abbrev pub lone_at : ℕ → Network
  lone_at number = lone (node number)

  -- the rules are those of the nodes, the calls are at sites that are apart, no nodes have smaller sizes than they are
  -- counted with, and by these counts the table is closed and the values are supported by it
  pub record AreNumbersChecked : Type 0 where
    pub ruled : (i j : ℕ) (rs : List (Rule ℕ ℕ)) → numbers i j ≡ Some rs
        → node_rules t (state i) (node j) ≡ Some (map (rule_of state lone_at) rs)
    pub at_sites : AreSites state lone_at listing sites
    pub counted : (blocks : List ℕ) → total blocks ≤ sum_by size (map node blocks)
    pub closed : AreClosed numbers listing (λ i. total) total
    pub valued : AreValues listing (λ i. total) total (λ i. is_goal (problem_of t) (state i)) cap value

  -- the bound of a configuration by what the numbers stand for
  abbrev pub bound_by_numbers : Config → ℕ
  bound_by_numbers =
      bound_by t passes (table_of state lone_at listing sites) (λ s. size_sum size) (size_sum size) cap

  -- it is admissible, and no less than the values where a totally ordered network is open
  pub record HaveBound : Type 0 where
    pub below : IsBelow (listing_machine t) bound_by_numbers
    pub above_values : (i : ℕ) (blocks : List ℕ) → passes (state i) ≡ true
        → value blocks i ≤ bound_by_numbers (opened (state i) (ordered (map node blocks)))

  -- so it is where the numbers are checked, and a step lowers the sizes by one at most
  abbrev pub NumbersBound : Type 0
  NumbersBound = IsKept t passes → IsStepSize t passes size → AreNumbersChecked → HaveBound
