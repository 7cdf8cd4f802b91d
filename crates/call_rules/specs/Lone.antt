-- The rules of networks of one node, by what the listing machine of a task lists.
use Rattle.std.specs.Prelude.{◌≡◌, ℕ, List, [], ◌∷◌, ◌++◌, map, length, Bool, cond, Option, Some, None, slice_get, option_map, option_and_then}
use Rattle.std.specs.List.{list_all}
use Rattle.htn_model.specs.Grounding.{problem_of}
use Rattle.htn_model.specs.Instance.{Instance}
use Rattle.htn_model.specs.Machine.{Config}
use Rattle.htn_model.specs.Problem.{Child, precondition, action, task, GroundTask, Network, order_eq, perform}
use Rattle.htn_model.specs.State.{State}
use Rattle.htn_model.specs.Task.{Task}
use Rattle.htn_order.specs.Shapes.{chain}
use Rattle.htn_ground.specs.Distinct.{distinct, live_methods}
use Rattle.htn_calls.specs.Calls.{Rule, Rules}
use Rattle.htn_calls.specs.Series.{opened, opened_series}
use Rattle.htn_calls.specs.Ordered.{ordered, lone}
use Rattle.call_rules.specs.Listing.{listed_step}

-- whether a network is totally ordered, as its nodes are listed
abbrev pub is_total : Network → Bool
is_total n = order_eq n.order (chain (length n.children))

-- whether all instances of a task that are listed are totally ordered
abbrev pub are_total : Task → GroundTask → Bool
are_total t g = list_all (λ i. is_total i.network) (distinct (live_methods t g))

-- an instance leaves the state as it is, and its nodes are blocks, each alone
abbrev pub rule_into : State → Instance → Rule State Network
rule_into s instance = record { state = s; blocks = map lone instance.network.children }

-- what is carried out leads to the state after it, and leaves nothing open
abbrev pub rules_after : Option State → List (Rule State Network)
rules_after None = []
rules_after (Some after) = record { state = after; blocks = [] } ∷ []

-- the rules of a node in a state: of a compound task those of its instances, by their ranks, if all are totally
-- ordered; of a step or an action one, or none where it can't be carried out
abbrev pub node_rules : Task → State → Child → Option (List (Rule State Network))
node_rules t s (precondition literals) = Some (rules_after (perform (problem_of t) s (precondition literals)))
node_rules t s (action g) = Some (rules_after (perform (problem_of t) s (action g)))
node_rules t s (task g) = cond (are_total t g) (Some (map (rule_into s) (distinct (live_methods t g)))) None

-- the node of a list of one
abbrev pub the_only : List Child → Option Child
the_only [] = None
the_only (x ∷ []) = Some x
the_only (x ∷ y ∷ xs) = None

-- the rules of a network of one node are those of its node; of others they are not known
abbrev pub lone_rules : Task → Rules State Network
lone_rules t s block = cond (is_total block) (option_and_then (node_rules t s) (the_only block.children)) None

-- ## Laws

-- the rules of a node alone are those of the node
abbrev pub LoneAreNodes : Task → Type 0
LoneAreNodes t = (s : State) (x : Child) → lone_rules t s (lone x) ≡ node_rules t s x

-- what a rule leads to, in front of other blocks
abbrev pub led_by : List Network → Rule State Network → Config
led_by rest r = opened_series r.state (r.blocks ++ rest)

-- a rank leads where the rule at its place does, whatever blocks are behind; and nowhere where there is none
abbrev pub RulesAreRanked : Task → Type 0
RulesAreRanked t =
    (s : State) (block : Network) (rest : List Network) (rs : List (Rule State Network)) (rank : ℕ)
    → lone_rules t s block ≡ Some rs
    → listed_step t (opened_series s (block ∷ rest)) rank ≡ option_map (led_by rest) (slice_get rs rank)

-- nodes, each alone in series, are a totally ordered network
abbrev pub NodesAreOrdered : Type 0
NodesAreOrdered = (s : State) (nodes : List Child) → opened_series s (map lone nodes) ≡ opened s (ordered nodes)
