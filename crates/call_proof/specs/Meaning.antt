-- What the numbers of a table of calls stand for: states, nodes and lists of nodes of a task.
use Rattle.std.specs.Prelude.{◌≡◌, ℕ, ◌<◌, List, [], ◌∷◌, map, length, Option, Some, None, slice_get}
use Rattle.std.specs.List.{All}
use Rattle.htn_model.specs.Choice.{child_of}
use Rattle.htn_model.specs.Grounding.{problem_of}
use Rattle.htn_model.specs.Machine.{Config}
use Rattle.htn_model.specs.Problem.{Child, Network, perform}
use Rattle.htn_model.specs.State.{State}
use Rattle.htn_model.specs.Task.{Task}
use Rattle.htn_calls.specs.Calls as model
use Rattle.htn_calls.specs.Numbered.{rule_of}
use Rattle.htn_calls.specs.Series.{opened}
use Rattle.htn_calls.specs.Ordered.{ordered, lone}
use Rattle.call_table.specs.Lists.{Lists, list_at}
use Rattle.call_table.specs.Views.{rule_view}
use Rattle.call_table.specs.declared.call.Call.{Call}
use Rattle.call_table.specs.declared.call.CallTable.{CallTable}
use Rattle.call_table.specs.declared.call.Rule.{Rule}
use Rattle.call_table.specs.declared.site.Site.{Site}
use Rattle.call_nodes.specs.Nodes.{children, state_at}
use Rattle.call_nodes.specs.declared.call_nodes.CallNodes.{CallNodes}
use Rattle.call_nodes.specs.declared.operator.Operator.{Operator}
use Rattle.call_nodes.specs.declared.operator.Operator.TheVariants.{Unlisted, Task as Listed, Partly, Step, Action, Never}
use Rattle.call_rules.specs.Lone.{node_rules, rules_after}

module _ (n : CallNodes) where
  -- the node of a number, and the node alone
  abbrev pub node_at : ℕ → Child
  node_at j = child_of (children n) j

  abbrev pub block_at : ℕ → Network
  block_at j = lone (node_at j)

  -- nodes that are open in a state, one after the other
  abbrev pub config_at : ℕ → List ℕ → Config
  config_at i nodes = opened (state_at n i) (ordered (map node_at nodes))

  -- what rules stand for
  abbrev pub meant : List Rule → List (model.Rule State Network)
  meant rules = map (λ r. rule_of (state_at n) block_at (rule_view n.lists r)) rules

  -- these are the rules of a node that is carried out in a state
  abbrev pub ArePerformed : Task → ℕ → ℕ → List Rule → Type 0
  ArePerformed t i j rules =
      (x : Child) → slice_get (children n) j ≡ Some x → i < length n.states
      → rules_after (perform (problem_of t) (state_at n i) x) ≡ meant rules

  -- these are the rules of a node in a state, both of which have their numbers
  pub record AreRulesAt (t : Task) (i j : ℕ) (rules : List Rule) : Type 0 where
    pub state : i < length n.states
    pub node : j < length (children n)
    pub rules_of : node_rules t (state_at n i) (node_at j) ≡ Some (meant rules)

  -- the rules of each call are those of its node in its state
  abbrev pub AreRules : Task → CallTable → Type 0
  AreRules t table = All (λ (p : Site × Call). AreRulesAt t p.0.state p.0.number p.1.rules.items) table.calls.entries

-- there is one rule, and it leads to this state with nothing left to do; or there is no rule, where there is no state
abbrev pub AreRulesInto : Lists → List (List ℕ) → List Rule → Option (List ℕ) → Type 0
AreRulesInto l states rules None = rules ≡ []
AreRulesInto l states rules (Some after) =
    (r : Rule) × (rules ≡ r ∷ []) × (slice_get states r.state ≡ Some after) × (list_at l r.blocks ≡ [])

-- the operator is that of a step or an action
abbrev pub IsCarriedOut : Operator → Type 0
IsCarriedOut Unlisted = ⊥
IsCarriedOut (Listed numbers) = ⊥
IsCarriedOut Partly = ⊥
IsCarriedOut (Step literals) = Unit {0}
IsCarriedOut (Action compiled) = Unit {0}
IsCarriedOut Never = Unit {0}
