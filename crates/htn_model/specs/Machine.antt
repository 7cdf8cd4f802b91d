-- The word machine: progression over configurations.
use Rattle.std.specs.Prelude.{◌≡◌, ℕ, ◌+◌, ◌-◌, ◌≤◌, List, [], ◌∷◌, map, length, Option, Some, None, Bool, true, cond, eqb, ltb, ◌&&◌, slice_get, option_map, option_and_then, refl}
use Rattle.std.specs.Coded.{Coded, code_by, coded×, coded_list}
use Rattle.std.specs.Cmp.Lexicographic.{pointwise}
use Rattle.std.specs.List.{range_with_len}
use Rattle.std.specs.Ordering.{on, eq_of_both}
use Rattle.htn_model.specs.State.{State, state_eq, state_code}
use Rattle.htn_model.specs.Literal.{holds}
use Rattle.htn_model.specs.Problem.{Child, precondition, action, task, child_eq, child_code, Order, is_before, order_eq, order_code, IsSquare, Network, IsNetwork, Problem, perform}
use Rattle.htn_model.specs.Choice.{nth_free, first_free_compound, splice, child_of}

-- a state, the open nodes, and their closed order
pub record Config : Type 0 where
  pub state : State
  pub open_nodes : List Child
  pub order : Order

-- whether two configurations have the same state, open nodes and order
abbrev pub config_eq : Config → Config → Bool
config_eq = eq_of_both (eq_of_both (on (λ c. c.state) state_eq) (on (λ c. c.open_nodes) (pointwise child_eq))) (on (λ c. c.order) order_eq)

-- configurations as values: their parts in turn
abbrev pub config_code : Coded Config
config_code =
    code_by (State × (List Child × Order)) (coded× state_code (coded× (coded_list child_code) order_code))
    (λ c. (c.state, (c.open_nodes, c.order))) (λ p. record { state = p.0; open_nodes = p.1.0; order = p.1.1 }) (λ _. refl)

-- the order of n nodes, as a table, in which a is before b where the test is true of a and b
abbrev pub table : ℕ → (ℕ → ℕ → Bool) → Order
table n f = map (λ a. map (f a) (range_with_len 0 n)) (range_with_len 0 n)

-- the position in the old network of the node at a in the new one, where the node at i was replaced by m nodes
abbrev pub origin : ℕ → ℕ → ℕ → ℕ
origin i m a = cond (ltb a i) a (cond (ltb a (i + m)) i (a + 1 - m))

-- the order where the node at i was replaced by m nodes: they have their own order among themselves, and that of the
-- replaced node towards the others
abbrev pub replaced_order : Order → ℕ → ℕ → Order → ℕ → ℕ → Bool
replaced_order order i m inner a b =
    cond (eqb (origin i m a) i && eqb (origin i m b) i) (is_before inner (a - i) (b - i)) (is_before order (origin i m a) (origin i m b))

-- the node at i replaced by a network, in the state that follows
abbrev pub replaced : Config → ℕ → Network → State → Config
replaced c i network state =
    let open_nodes = splice i network.children c.open_nodes in
    record { state = state; open_nodes = open_nodes; order = table (length open_nodes) (replaced_order c.order i (length network.children) network.order) }

-- the network without nodes
abbrev pub no_network : Network
no_network = record { children = []; order = [] }

-- the choice of a number: the position of a node, the network that replaces it, and the state that follows
pub record Choice : Type 0 where
  pub position : ℕ
  pub network : Network
  pub state : State

-- the network of that number that a task may be decomposed into; none for another node
abbrev pub network_at : Problem → Child → ℕ → Option Network
network_at problem (precondition literals) number = None
network_at problem (action g) number = None
network_at problem (task t) number = slice_get (problem.methods_of t) number

-- the first free compound node's instance of that number, or else the free step or action at that position
abbrev pub choose_from : Problem → Config → ℕ → Option ℕ → Option Choice
choose_from problem c number (Some i) =
    option_map (λ network. record { position = i; network = network; state = c.state }) (network_at problem (child_of c.open_nodes i) number)
choose_from problem c number None =
    option_and_then
    (λ i. option_map (λ state. record { position = i; network = no_network; state = state }) (perform problem c.state (child_of c.open_nodes i)))
    (nth_free (length c.open_nodes) (is_before c.order) number)

-- the choice that a number makes in a configuration
abbrev pub choose : Problem → Config → ℕ → Option Choice
choose problem c number = choose_from problem c number (first_free_compound c.open_nodes (is_before c.order))

-- the configuration after a choice
abbrev pub result_of : Config → Choice → Config
result_of c choice = replaced c choice.position choice.network choice.state

-- the configuration after the step of a number
abbrev pub step_by : Problem → Config → ℕ → Option Config
step_by problem c number = option_map (result_of c) (choose problem c number)

-- nothing is open, and the goal holds
abbrev pub IsDone : Problem → Config → Type 0
IsDone problem c = (c.open_nodes ≡ []) × (holds c.state problem.goal ≡ true)

-- the numbers of the word lead from a configuration to one that is done
abbrev pub FinishesFrom : Problem → List ℕ → Config → Type 0
FinishesFrom problem [] c = IsDone problem c
FinishesFrom problem (number ∷ word) c = (next : Config) × (step_by problem c number ≡ Some next) × FinishesFrom problem word next

-- the initial configuration of an initial network
abbrev pub start : Problem → Network → Config
start problem network = record { state = problem.initial_state; open_nodes = network.children; order = network.order }

-- a word that leads its initial network to no open nodes with the goal true
abbrev pub Finishes : Problem → List ℕ → Type 0
Finishes problem [] = ⊥
Finishes problem (number ∷ word) =
    (network : Network) × (slice_get problem.initials number ≡ Some network) × FinishesFrom problem word (start problem network)

-- each open node takes at least one more number
abbrev pub OpenNodesTakeSteps : Problem → Type 0
OpenNodesTakeSteps problem = (word : List ℕ) (c : Config) → FinishesFrom problem word c → length c.open_nodes ≤ length word

-- the order has a row for each open node, and so it is determined by its entries
abbrev pub IsProper : Config → Type 0
IsProper c = IsSquare (length c.open_nodes) c.order

-- configurations where a word may lead are proper, and proper ones with the same parts and entries are equal
pub record ConfigsAreProper (problem : Problem) : Type 0 where
  pub starts : (network : Network) → IsNetwork network → IsProper (start problem network)
  pub steps : (c next : Config) (number : ℕ) → step_by problem c number ≡ Some next → IsProper next
  pub equal : (c d : Config) → IsProper c → IsProper d → c.state ≡ d.state → c.open_nodes ≡ d.open_nodes
      → ((a b : ℕ) → is_before c.order a b ≡ is_before d.order a b) → c ≡ d
