-- The task decomposition graph of a task.
use Rattle.std.specs.Prelude.{◌≡◌, ◌⊎◌, ◌≤◌, ℕ, ◌+◌, ◌^◌, ◌++◌, Bool, cond, nat_lt, option_and_then, false, true, not, ◌&&◌, is_some, List, [], ◌∷◌, length, map, slice_get, take, Option, Some, None}
use Rattle.std.specs.List.{All, filter, list_any, position, sum_by}
use Rattle.htn_model.specs.Grounding.{problem_of}
use Rattle.htn_model.specs.Instances.{initials}
use Rattle.htn_model.specs.Problem.{Child, precondition, action, task, GroundTask, Network, child_eq, ground_task_eq}
use Rattle.htn_model.specs.Task.{Task}
use Rattle.htn_ground.specs.Distinct.{distinct, live_methods}
use Rattle.htn_ground.specs.Views.{children_of}
use Rattle.task_graph.specs.Ids.{small_id}
use Rattle.task_graph.specs.Barred.{has_barred, is_barred, is_barred_node}
use Rattle.task_graph.specs.declared.decomposition.Decomposition.{Decomposition}
use Rattle.task_graph.specs.declared.graph.TaskGraph.{TaskGraph}
use Rattle.task_graph.specs.declared.grounding.Grounding.{Grounding}
use Rattle.task_graph.specs.declared.node_id.NodeId.{NodeId}

-- ## Nodes and their ids

-- the nodes of a graph in the order of their ids
abbrev pub nodes_of : TaskGraph → List Child
nodes_of g = children_of g.nodes.keys

-- the id of a node: its place
abbrev pub id_of : List Child → Child → Option ℕ
id_of nodes x = small_id (position (child_eq x) nodes)

-- these are the ids of these nodes, one by one
abbrev pub AreIds : List Child → List NodeId → List Child → Type 0
AreIds nodes ids xs = map (λ i. Some i.index) ids ≡ map (id_of nodes) xs

-- what an action is ground to, and whether it is never carried out; nothing is said of other nodes
abbrev pub grounding_of : Task → Child → Grounding
grounding_of t (precondition literals) = record { action = None; is_barred = false }
grounding_of t (action g) = record { action = (problem_of t).action_of g; is_barred = is_barred (problem_of t) g }
grounding_of t (task g) = record { action = None; is_barred = false }

-- each node's grounding is at its id
abbrev pub IsGrounded : Task → TaskGraph → Type 0
IsGrounded t g = g.groundings.items ≡ map (grounding_of t) (nodes_of g)

-- whether a node is no compound task
abbrev pub is_leaf : Child → Bool
is_leaf (precondition literals) = true
is_leaf (action g) = true
is_leaf (task g) = false

-- the compound task that a node is, if it is one
abbrev pub compound_of : Child → Option GroundTask
compound_of (precondition literals) = None
compound_of (action g) = None
compound_of (task g) = Some g

-- the compound task with an id
abbrev pub task_at : TaskGraph → ℕ → Option GroundTask
task_at g id = option_and_then compound_of (slice_get (nodes_of g) id)

-- whether an id is below a number
abbrev pub is_below : ℕ → Option ℕ → Bool
is_below count None = false
is_below count (Some id) = nat_lt id count

-- whether the decompositions of a compound task are listed
abbrev pub is_task_listed : TaskGraph → GroundTask → Bool
is_task_listed g h = is_below g.listed (id_of (nodes_of g) (task h))

-- the flag of a grounding, if there is one
abbrev pub flag_of : Option Grounding → Bool
flag_of None = false
flag_of (Some x) = x.is_barred

-- whether the node with an id is an action that is never carried out, by its grounding
abbrev pub is_barred_at : TaskGraph → ℕ → Bool
is_barred_at g id = flag_of (slice_get g.groundings.items id)

-- the action that a node is, if it is one
abbrev pub action_in : Child → Option GroundTask
action_in (precondition literals) = None
action_in (action g) = Some g
action_in (task g) = None

-- the action with an id, if it is never carried out
abbrev pub barred_action_at : TaskGraph → ℕ → Option GroundTask
barred_action_at g id = cond (is_barred_at g id) (option_and_then action_in (slice_get (nodes_of g) id)) None

-- just the actions of a graph that are never carried out
pub record AreBarredActions (g : TaskGraph) (actions : List GroundTask) : Type 0 where
  pub right : All (λ h. (id : ℕ) × (barred_action_at g id ≡ Some h)) actions
  pub whole : (id : ℕ) (h : GroundTask) → barred_action_at g id ≡ Some h → list_any (ground_task_eq h) actions ≡ true

-- ## Decompositions

-- whether a node is an action that is never carried out, and has an id
abbrev pub is_known_barred : Task → List Child → Child → Bool
is_known_barred t nodes x = is_barred_node (problem_of t) x && is_some (id_of nodes x)

-- where one of a network's nodes is such an action, one of them has an id
abbrev pub IsBarredThere : Task → List Child → Network → Type 0
IsBarredThere t nodes n = has_barred (problem_of t) n ≡ true → list_any (is_known_barred t nodes) n.children ≡ true

-- the networks of a compound task's instances that are not dead, each once
abbrev pub live_networks : Task → Child → List Network
live_networks t (precondition literals) = []
live_networks t (action g) = []
live_networks t (task g) = map (λ i. i.network) (distinct (live_methods t g))

-- those in which it may be decomposed: that have no action that is never carried out
abbrev pub open_networks : Task → List Network → List Network
open_networks t networks = filter (λ n. not (has_barred (problem_of t) n)) networks

-- those of nodes in turn, each with the id of its task; the first node has this id
abbrev pub listing_from : Task → ℕ → List Child → List (ℕ × Network)
listing_from t id [] = []
listing_from t id (x ∷ xs) = map (λ n. (id, n)) (open_networks t (live_networks t x)) ++ listing_from t (id + 1) xs

-- the cost of listing a node: one for a compound task, one for each of its networks, and one for each of their nodes
abbrev pub listing_cost : Task → Child → ℕ
listing_cost t (precondition literals) = 0
listing_cost t (action g) = 0
listing_cost t (task g) = 1 + sum_by (λ n. 1 + length n.children) (live_networks t (task g))

-- the network of a decomposition
abbrev pub network_of : Decomposition → Network
network_of d = record { children = d.children; order = d.order }

-- the network of a decomposition with the id of its task
abbrev pub entry_of : Decomposition → ℕ × Network
entry_of d = (d.task.index, network_of d)

-- the ids of a decomposition's nodes are theirs
abbrev pub IsNumbered : List Child → Decomposition → Type 0
IsNumbered nodes d = AreIds nodes d.nodes.items d.children

-- ## The graph

-- the nodes of each initial network have ids
abbrev pub AreStartsThere : Task → List Child → Type 0
AreStartsThere t nodes = All (λ i. All (λ x. is_some (id_of nodes x) ≡ true) i.network.children) (distinct (initials t))

-- a part of the task's decomposition graph: the decompositions are exactly those of the first `listed` nodes
pub record IsGraph (t : Task) (g : TaskGraph) : Type 0 where
  pub starts : AreStartsThere t (nodes_of g)
  pub grounded : IsGrounded t g
  pub numbered : All (IsNumbered (nodes_of g)) g.decompositions.items
  pub within : g.listed ≤ length (nodes_of g)
  pub listed : map entry_of g.decompositions.items ≡ listing_from t 0 (take g.listed (nodes_of g))
  pub barred : All (λ x. All (IsBarredThere t (nodes_of g)) (live_networks t x)) (take g.listed (nodes_of g))
  pub cost : g.cost ≡ sum_by (listing_cost t) (take g.listed (nodes_of g))

-- where a graph is cut: all nodes are listed, or the next one is a compound task
abbrev pub IsCut : TaskGraph → Type 0
IsCut g = (g.listed ≡ length (nodes_of g)) ⊎ ((h : GroundTask) × (slice_get (nodes_of g) g.listed ≡ Some (task h)))

-- ## Growth

-- the new list is the old one with more at its end
abbrev pub IsGrown : {X : Type 0} → List X → List X → Type 0
IsGrown {X} old new = (more : List X) × (new ≡ old ++ more)

-- the graph of before with more at the end of each of its lists: ids stay, and so does what is listed
pub record IsLater (old new : TaskGraph) : Type 0 where
  pub nodes : IsGrown (nodes_of old) (nodes_of new)
  pub decompositions : IsGrown old.decompositions.items new.decompositions.items
  pub listed : old.listed ≤ new.listed
