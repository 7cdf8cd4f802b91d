-- A ground planning problem: task networks with closed orders, the instances of methods and of the initial network, and
-- the actions.
use Rattle.std.specs.Prelude.{◌≡◌, ℕ, ◌⊎◌, List, [], length, get_or, Option, Some, None, Bool, true, false, cond, nat_eq, slice_get, refl}
use Rattle.std.specs.Bool.{beq}
use Rattle.std.specs.Coded.{Coded, code_by, coded×, coded⊎, coded_ℕ, coded_bool, coded_list}
use Rattle.std.specs.Cmp.Lexicographic.{pointwise}
use Rattle.std.specs.List.{AllByRecursion}
use Rattle.std.specs.Ordering.{on, eq_of_both}
use mathlib.Core.Logic.{inl, inr}
use Rattle.htn_model.specs.Atom.{Atom}
use Rattle.htn_model.specs.State.{State, contains}
use Rattle.htn_model.specs.Literal.{Literal, literal_eq, literal_code, holds, Action, after}

-- ## Networks

-- a compound task or an action, with its arguments
pub record GroundTask : Type 0 where
  pub name : ℕ
  pub arguments : List ℕ

-- a node of a network: a precondition step, an action, or a compound task
pub data Child : Type 0 where
  precondition : List Literal → Child
  action : GroundTask → Child
  task : GroundTask → Child

-- whether a node is a compound task
abbrev pub is_compound : Child → Bool
is_compound (precondition literals) = false
is_compound (action g) = false
is_compound (task t) = true

-- row a has true at b where position a is before position b
abbrev pub Order : Type 0
Order = List (List Bool)

-- whether the order puts one node before another
abbrev pub is_before : Order → ℕ → ℕ → Bool
is_before order a b = get_or (get_or order a []) b false

-- the children in declared order, the step first, and which is before which
pub record Network : Type 0 where
  pub children : List Child
  pub order : Order

-- an order has no cycle, and is transitively closed
pub record IsClosed (order : Order) : Type 0 where
  pub irreflexive : (a : ℕ) → is_before order a a ≡ false
  pub transitive : (a b c : ℕ) → is_before order a b ≡ true → is_before order b c ≡ true → is_before order a c ≡ true

-- one row for each of the n positions, with one entry for each
abbrev pub IsSquare : ℕ → Order → Type 0
IsSquare n order = (length order ≡ n) × AllByRecursion (λ row. length row ≡ n) order

-- the order of a network is closed, and a square table of its nodes
pub record IsNetwork (network : Network) : Type 0 where
  pub closed : IsClosed network.order
  pub square : IsSquare (length network.children) network.order

-- ## Problems

-- a ground problem: its initial networks, the instances of methods and actions, the initial state and the goal
pub record Problem : Type 0 where
  pub initials : List Network
  -- the instances of a compound task, by their numbers
  pub methods_of : GroundTask → List Network
  pub action_of : GroundTask → Option Action
  -- the predicates that an effect of the domain names
  pub is_changed : ℕ → Bool
  pub initial_state : State
  pub goal : List Literal

-- the predicate of each atom in the set is one that an effect names
abbrev pub AreChanged : (ℕ → Bool) → State → Type 0
AreChanged is_changed s = (a : Atom) → contains s a ≡ true → is_changed a.predicate ≡ true

-- each network has a closed order on its nodes, and effects change only predicates that are said to change
pub record IsGrounded (problem : Problem) : Type 0 where
  pub initials : (k : ℕ) (network : Network) → slice_get problem.initials k ≡ Some network → IsNetwork network
  pub methods : (t : GroundTask) (k : ℕ) (network : Network) → slice_get (problem.methods_of t) k ≡ Some network → IsNetwork network
  pub effects : (g : GroundTask) (a : Action) → problem.action_of g ≡ Some a → AreChanged problem.is_changed a.adds × AreChanged problem.is_changed a.deletes

-- the state after an action, if there is one and its precondition holds
abbrev pub perform_action : State → Option Action → Option State
perform_action state None = None
perform_action state (Some a) = cond (holds state a.precondition) (Some (after state a)) None

-- the state after a step or an action, where its literals hold
abbrev pub perform : Problem → State → Child → Option State
perform problem state (precondition literals) = cond (holds state literals) (Some state) None
perform problem state (action g) = perform_action state (problem.action_of g)
perform problem state (task t) = None

-- ## As values

-- whether two ground tasks have the same name and arguments
abbrev pub ground_task_eq : GroundTask → GroundTask → Bool
ground_task_eq = eq_of_both (on (λ t. t.name) nat_eq) (on (λ t. t.arguments) (pointwise nat_eq))

-- ground tasks as values: their parts in turn
abbrev pub ground_task_code : Coded GroundTask
ground_task_code =
    code_by (ℕ × List ℕ) (coded× coded_ℕ (coded_list coded_ℕ)) (λ t. (t.name, t.arguments)) (λ p. record { name = p.0; arguments = p.1 }) (λ _. refl)

-- whether two nodes of a network are equal
abbrev pub child_eq : Child → Child → Bool
child_eq (precondition ls) (precondition ms) = pointwise literal_eq ls ms
child_eq (precondition ls) (action h) = false
child_eq (precondition ls) (task u) = false
child_eq (action g) (precondition ms) = false
child_eq (action g) (action h) = ground_task_eq g h
child_eq (action g) (task u) = false
child_eq (task t) (precondition ms) = false
child_eq (task t) (action h) = false
child_eq (task t) (task u) = ground_task_eq t u

-- a node as a precondition, an action or a task
abbrev pub child_parts : Child → List Literal ⊎ (GroundTask ⊎ GroundTask)
child_parts (precondition literals) = inl literals
child_parts (action g) = inr (inl g)
child_parts (task t) = inr (inr t)

-- the node of these parts
abbrev pub child_of_parts : List Literal ⊎ (GroundTask ⊎ GroundTask) → Child
child_of_parts (inl literals) = precondition literals
child_of_parts (inr (inl g)) = action g
child_of_parts (inr (inr t)) = task t

-- a node is that of its parts
pub child_of_parts-parts : (x : Child) → child_of_parts (child_parts x) ≡ x
child_of_parts-parts (precondition literals) = refl
child_of_parts-parts (action g) = refl
child_of_parts-parts (task t) = refl

-- nodes of networks as values: their parts in turn
abbrev pub child_code : Coded Child
child_code =
    code_by (List Literal ⊎ (GroundTask ⊎ GroundTask)) (coded⊎ (coded_list literal_code) (coded⊎ ground_task_code ground_task_code))
    child_parts child_of_parts child_of_parts-parts

-- whether two orders have the same entries
abbrev pub order_eq : Order → Order → Bool
order_eq = pointwise (pointwise beq)

-- orders as values: their entries in turn
abbrev pub order_code : Coded Order
order_code = coded_list (coded_list coded_bool)

-- whether two networks have the same nodes and the same order
abbrev pub network_eq : Network → Network → Bool
network_eq = eq_of_both (on (λ n. n.children) (pointwise child_eq)) (on (λ n. n.order) order_eq)

-- networks as values: their parts in turn
abbrev pub network_code : Coded Network
network_code =
    code_by (List Child × Order) (coded× (coded_list child_code) order_code) (λ n. (n.children, n.order)) (λ p. record { children = p.0; order = p.1 }) (λ _. refl)
