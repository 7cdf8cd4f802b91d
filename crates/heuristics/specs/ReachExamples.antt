-- Small examples of what is reached, computed.
use Rattle.std.specs.Prelude.{◌≡◌, Bool, true, false, not, ◌||◌, List, [], ◌∷◌, nat_eq}
use Rattle.htn_model.specs.Atom.{Atom}
use Rattle.htn_model.specs.State.{State, set_of}
use Rattle.htn_model.specs.Literal.{atom, Action}
use Rattle.htn_model.specs.Problem.{Child, precondition, action, task, ground_task_eq}
use Rattle.htn_model.specs.Machine.{Config}
use Rattle.htn_model.specs.Examples.{fact, named}
use Rattle.heuristics.specs.Facts.{Facts, are_possible, has_effects, is_within}
use Rattle.heuristics.specs.Reach.{Reach, is_lost_node, is_reached, may_end_by, passes}

-- ## Facts: 1 is true and stays so, 0 may become true

-- these facts
abbrev pub two_facts : Facts
two_facts = record { may_hold = λ a. nat_eq a.predicate 0 || nat_eq a.predicate 1; lasting = set_of (fact 1 ∷ []) }

-- an action without a precondition
abbrev pub changes : List Atom → List Atom → Action
changes deletes adds = record { precondition = []; deletes = set_of deletes; adds = set_of adds }

-- a state is within the facts where 1 is true and nothing but 0 beside it; an action keeps to them that adds 0 or
-- deletes it, or deletes 1 and adds it again, and no action that deletes 1 or adds 2
pub record FactsAreApart : Type 0 where
  pub least : is_within two_facts (set_of (fact 1 ∷ [])) ≡ true
  pub most : is_within two_facts (set_of (fact 0 ∷ fact 1 ∷ [])) ≡ true
  pub fallen : is_within two_facts (set_of (fact 0 ∷ [])) ≡ false
  pub risen : is_within two_facts (set_of (fact 1 ∷ fact 2 ∷ [])) ≡ false
  pub apart : are_possible two_facts (atom true (fact 0) ∷ atom false (fact 0) ∷ atom true (fact 1) ∷ []) ≡ true
  pub never_fails : are_possible two_facts (atom false (fact 1) ∷ []) ≡ false
  pub never_holds : are_possible two_facts (atom true (fact 2) ∷ []) ≡ false
  pub renews : has_effects two_facts (changes (fact 0 ∷ fact 1 ∷ []) (fact 0 ∷ fact 1 ∷ [])) ≡ true
  pub deletes : has_effects two_facts (changes (fact 1 ∷ []) (fact 0 ∷ [])) ≡ false
  pub adds : has_effects two_facts (changes [] (fact 2 ∷ [])) ≡ false

-- ## Nodes: action 0 needs fact 2 and action 1 makes it, but needs fact 3, which nothing makes; action 2 is barred, and
-- nothing is known of task 4

-- the nodes that never end by the facts: the two actions, and task 3, each of whose instances has one of them
abbrev pub never_ends : Child → Bool
never_ends (precondition literals) = not (are_possible two_facts literals)
never_ends (action g) = ground_task_eq g (named 0) || ground_task_eq g (named 1)
never_ends (task g) = ground_task_eq g (named 3)

-- the nodes that are known: all but task 4
abbrev pub is_told : Child → Bool
is_told (precondition literals) = true
is_told (action g) = true
is_told (task g) = not (ground_task_eq g (named 4))

-- what is reached
abbrev pub chain_reach : Reach
chain_reach = record { facts = two_facts; is_known = is_told; is_blocked = never_ends; is_barred = λ g. ground_task_eq g (named 2) }

-- a configuration in any order
abbrev pub standing : State → List Child → Config
standing state nodes = record { state = state; open_nodes = nodes; order = [] }

-- what never ends beside known nodes does not, in a state within the facts; what is beside an unknown node may, or in
-- another state; and what is beside a barred action doesn't, whatever else there is
pub record BlockedNodesStay : Type 0 where
  pub task_instances : passes chain_reach (named 3) (precondition [] ∷ action (named 1) ∷ []) ≡ true
  pub other_instance : passes chain_reach (named 3) (precondition [] ∷ action (named 5) ∷ []) ≡ false
  pub unknown_within : passes chain_reach (named 6) (task (named 4) ∷ []) ≡ false
  pub blocked : (s : State) → is_within two_facts s ≡ true → may_end_by chain_reach (standing s (action (named 5) ∷ task (named 3) ∷ [])) ≡ false
  pub free : (s : State) → may_end_by chain_reach (standing s (action (named 5) ∷ [])) ≡ true
  pub beside_unknown : (s : State) → may_end_by chain_reach (standing s (action (named 0) ∷ task (named 4) ∷ [])) ≡ true
  pub elsewhere : (s : State) → is_within two_facts s ≡ false → may_end_by chain_reach (standing s (action (named 0) ∷ [])) ≡ true
  pub barred : (s : State) → may_end_by chain_reach (standing s (action (named 2) ∷ task (named 4) ∷ [])) ≡ false
  pub step : (s : State) → is_within two_facts s ≡ true → may_end_by chain_reach (standing s (precondition (atom false (fact 1) ∷ []) ∷ [])) ≡ false

-- known nodes in a state within the facts may be reached, and so may a barred action beside any others; an unknown node
-- without one may not, and nothing else in another state; and of the nodes never end those that are blocked or barred
pub record ReachedAreApart : Type 0 where
  pub known : (s : State) → is_within two_facts s ≡ true → is_reached chain_reach (standing s (action (named 5) ∷ task (named 3) ∷ [])) ≡ true
  pub unknown : (s : State) → is_reached chain_reach (standing s (action (named 0) ∷ task (named 4) ∷ [])) ≡ false
  pub elsewhere : (s : State) → is_within two_facts s ≡ false → is_reached chain_reach (standing s (action (named 5) ∷ [])) ≡ false
  pub barred : (s : State) → is_reached chain_reach (standing s (action (named 2) ∷ task (named 4) ∷ [])) ≡ true
  pub lost_blocked : is_lost_node chain_reach (task (named 3)) ≡ true
  pub lost_barred : is_lost_node chain_reach (action (named 2)) ≡ true
  pub free : is_lost_node chain_reach (action (named 5)) ≡ false
