-- Decomposition trees, the order that they inherit, and solutions.
use Rattle.std.specs.Prelude.{◌≡◌, ℕ, zero, suc, ◌+◌, List, [], ◌∷◌, ◌++◌, Option, Some, None, Bool, true, false, cond, eqb, slice_get, option_and_then, ⊤}
use Rattle.std.specs.List.{AllByRecursion}
use Rattle.htn_model.specs.State.{State}
use Rattle.htn_model.specs.Literal.{Literal, Action, holds}
use Rattle.htn_model.specs.Problem.{GroundTask, Child, precondition, action, task, Order, is_before, Network, Problem, perform}

mutual
  -- an action, a precondition step, or a compound task with the number of its method instance and that instance's trees
  pub data Node : Type 0 where
    leaf : GroundTask → Node
    step : List Literal → Node
    compound : GroundTask → ℕ → Nodes → Node

  -- a list of trees
  pub data Nodes : Type 0 where
    no_nodes : Nodes
    node : Node → Nodes → Nodes

-- what a tree is a tree of, as a node of a network
abbrev pub root : Node → Child
root (leaf g) = action g
root (step literals) = precondition literals
root (compound t number nodes) = task t

-- what each of the trees is a tree of
abbrev pub roots : Nodes → List Child
roots no_nodes = []
roots (node n ns) = root n ∷ roots ns

-- the trees as a list, and back
abbrev pub list_of : Nodes → List Node
list_of no_nodes = []
list_of (node n ns) = n ∷ list_of ns

-- a list of trees as children
abbrev pub nodes_of : List Node → Nodes
nodes_of [] = no_nodes
nodes_of (n ∷ ns) = node n (nodes_of ns)

-- ## Trees

abbrev mutual
  -- an action leaf is an action instance, and below a compound node stand trees of its instance's children
  pub IsTree : Problem → Node → Type 0
  IsTree problem (leaf g) = (a : Action) × (problem.action_of g ≡ Some a)
  IsTree problem (step literals) = ⊤
  IsTree problem (compound t number nodes) =
      (network : Network) × (slice_get (problem.methods_of t) number ≡ Some network) × (roots nodes ≡ network.children) × AreTrees problem nodes

  -- all of the trees are such trees
  pub AreTrees : Problem → Nodes → Type 0
  AreTrees problem no_nodes = ⊤
  AreTrees problem (node n ns) = IsTree problem n × AreTrees problem ns

abbrev mutual
  -- the number of a tree's nodes
  pub size : Node → ℕ
  size (leaf g) = 1
  size (step literals) = 1
  size (compound t number nodes) = suc (total_size nodes)

  -- the number of the nodes of trees
  pub total_size : Nodes → ℕ
  total_size no_nodes = 0
  total_size (node n ns) = size n + total_size ns

-- ## Places

-- child positions from the roots down
abbrev pub Place : Type 0
Place = List ℕ

-- the tree at a position
abbrev pub child_at : Nodes → ℕ → Option Node
child_at no_nodes i = None
child_at (node n ns) zero = Some n
child_at (node n ns) (suc i) = child_at ns i

-- the trees below a node
abbrev pub children_of : Node → Nodes
children_of (leaf g) = no_nodes
children_of (step literals) = no_nodes
children_of (compound t number nodes) = nodes

-- the trees below a node, if there is one
abbrev pub children_in : Option Node → Nodes
children_in None = no_nodes
children_in (Some n) = children_of n

-- the node that a place leads to from a node
abbrev pub node_below : Option Node → Place → Option Node
node_below n [] = n
node_below n (i ∷ place) = node_below (child_at (children_in n) i) place

-- the node at a place, if there is one
abbrev pub node_at : Nodes → Place → Option Node
node_at trees [] = None
node_at trees (i ∷ place) = node_below (child_at trees i) place

-- ## The inherited order

-- the order of a network, if there is one
abbrev pub order_of_network : Option Network → Order
order_of_network None = []
order_of_network (Some network) = network.order

-- the order of a node's children: that of the network into which it was decomposed
abbrev pub order_of : Problem → Node → Order
order_of problem (leaf g) = []
order_of problem (step literals) = []
order_of problem (compound t number nodes) = order_of_network (slice_get (problem.methods_of t) number)

-- the order of a node's children, if there is a node
abbrev pub order_in : Problem → Option Node → Order
order_in problem None = []
order_in problem (Some n) = order_of problem n

-- the order of the lowest network in which the two places part
abbrev pub before : Problem → Order → Nodes → Place → Place → Bool
before problem order trees [] q = false
before problem order trees (i ∷ p) [] = false
before problem order trees (i ∷ p) (j ∷ q) =
    cond (eqb i j) (before problem (order_in problem (child_at trees i)) (children_in (child_at trees i)) p q) (is_before order i j)

-- ## Linearisations

abbrev mutual
  -- the places of all leaves and steps, in the order of the trees
  pub primitives : Place → Node → List Place
  primitives place (leaf g) = place ∷ []
  primitives place (step literals) = place ∷ []
  primitives place (compound t number nodes) = primitives_from place 0 nodes

  -- those of the children from position i on
  pub primitives_from : Place → ℕ → Nodes → List Place
  primitives_from place i no_nodes = []
  primitives_from place i (node n ns) = primitives (place ++ i ∷ []) n ++ primitives_from place (suc i) ns

-- two lists have the same members, each as often
abbrev pub IsRearrangement : List Place → List Place → Type 0
IsRearrangement [] qs = qs ≡ []
IsRearrangement (p ∷ ps) qs = (left : List Place) × (right : List Place) × (qs ≡ left ++ p ∷ right) × IsRearrangement ps (left ++ right)

-- no place follows one that it is before
abbrev pub Respects : (Place → Place → Bool) → List Place → Type 0
Respects precedes [] = ⊤
Respects precedes (p ∷ ps) = AllByRecursion (λ q. precedes q p ≡ false) ps × Respects precedes ps

-- ## Solutions

-- the number of the initial network, a tree for each of its nodes, and the places of actions and steps in sequence
pub record Solution : Type 0 where
  pub number : ℕ
  pub trees : Nodes
  pub linearisation : List Place

-- the state after the action or step of a node
abbrev pub perform_at : Problem → State → Option Node → Option State
perform_at problem state None = None
perform_at problem state (Some n) = perform problem state (root n)

-- the state after the actions and steps at these places
abbrev pub run : Problem → Nodes → State → List Place → Option State
run problem trees state [] = Some state
run problem trees state (p ∷ ps) = option_and_then (λ next. run problem trees next ps) (perform_at problem state (node_at trees p))

-- there is a state at the end, and the goal holds in it
abbrev pub ReachesGoal : Problem → Option State → Type 0
ReachesGoal problem last = (state : State) × (last ≡ Some state) × (holds state problem.goal ≡ true)

-- the order between the places of a solution's forest
abbrev pub forest_order : Problem → Solution → Place → Place → Bool
forest_order problem s = before problem (order_of_network (slice_get problem.initials s.number)) s.trees

-- the trees decompose an initial network, and their actions and steps, in an order that they inherit, lead to the goal
pub record IsSolution (problem : Problem) (s : Solution) : Type 0 where
  pub network : Network
  pub is_initial : slice_get problem.initials s.number ≡ Some network
  pub are_roots : roots s.trees ≡ network.children
  pub are_trees : AreTrees problem s.trees
  pub is_rearrangement : IsRearrangement s.linearisation (primitives_from [] 0 s.trees)
  pub respects : Respects (forest_order problem s) s.linearisation
  pub reaches_goal : ReachesGoal problem (run problem s.trees problem.initial_state s.linearisation)
