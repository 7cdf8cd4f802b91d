-- Configurations of a run: their orders are square, and each open node takes a step of its own.
use Rattle.std.proofs.Common.{◌≡◌, ℕ, ◌≤◌, List, [], ◌∷◌, length, Some, sym, ap, subst, arith, suc}
use Rattle.htn_model.specs.Problem.{is_before, IsSquare, Network, IsNetwork, Problem}
use Rattle.htn_model.specs.Choice.{splice}
use Rattle.htn_model.specs.Machine.{Config, replaced_order, step_by, FinishesFrom, start, ConfigsAreProper}
use Rattle.htn_model.proofs.Splices.{table_square, same_order, length_splice}
use Rattle.htn_model.proofs.Steps.{chosen, step_choice}
use Rattle.htn_model.proofs.Regrown.{choice_within}

-- the order that a network starts with is a square table of its nodes
pub start_square : (problem : Problem) (network : Network) → IsNetwork network → IsSquare (length (start problem network).open_nodes) (start problem network).order
start_square problem network h = h.square

-- a step makes an order that is a square table of the open nodes
pub step_square : (problem : Problem) (c next : Config) (number : ℕ) → step_by problem c number ≡ Some next → IsSquare (length next.open_nodes) next.order
step_square problem c next number h =
    let made = step_choice problem c next number h in
    let i = made.0.position in
    subst (λ d. IsSquare (length d.open_nodes) d.order) (sym made.2)
    (table_square (length (splice i made.0.network.children c.open_nodes)) (replaced_order c.order i (length made.0.network.children) made.0.network.order))

-- two such configurations are equal where their states, their open nodes and the entries of their orders are
pub same_config : (c d : Config) → IsSquare (length c.open_nodes) c.order → IsSquare (length d.open_nodes) d.order
    → c.state ≡ d.state → c.open_nodes ≡ d.open_nodes → ((a b : ℕ) → is_before c.order a b ≡ is_before d.order a b) → c ≡ d
same_config c d p q states nodes alike =
    let orders : c.order ≡ d.order = same_order (length c.open_nodes) c.order d.order p (subst (λ xs. IsSquare (length xs) d.order) (sym nodes) q) alike in
    λ i. record { state = states i; open_nodes = nodes i; order = orders i }

-- a step closes one open node at most
pub open_step : (problem : Problem) (c next : Config) (number : ℕ) → step_by problem c number ≡ Some next → length c.open_nodes ≤ suc (length next.open_nodes)
open_step problem c next number h =
    let made = step_choice problem c next number h in
    let i = made.0.position in
    let splices = length_splice i made.0.network.children c.open_nodes (choice_within problem c number made.0 (chosen problem c number made.0 made.1)) in
    let same : length next.open_nodes ≡ length (splice i made.0.network.children c.open_nodes) = ap (λ d. length d.open_nodes) made.2 in
    omega arith

-- a word that finishes has a number for each open node
pub open_steps : (problem : Problem) (word : List ℕ) (c : Config) → FinishesFrom problem word c → length c.open_nodes ≤ length word
open_steps problem [] c h = let e = ap length h.0 in omega arith
open_steps problem (number ∷ word) c h =
    let made = step_choice problem c h.0 number h.1 in
    let more = open_steps problem word h.0 h.2 in
    let i = made.0.position in
    let within = choice_within problem c number made.0 (chosen problem c number made.0 made.1) in
    let splices = length_splice i made.0.network.children c.open_nodes within in
    let same : length h.0.open_nodes ≡ length (splice i made.0.network.children c.open_nodes) = ap (λ d. length d.open_nodes) made.2 in
    omega arith

-- configurations of a run are proper
pub configs_are_proper : (problem : Problem) → ConfigsAreProper problem
configs_are_proper problem = record { starts = start_square problem; steps = step_square problem; equal = same_config }
