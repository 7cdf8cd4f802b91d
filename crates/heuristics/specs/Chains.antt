-- The needs of a totally ordered network, by those of the network of its later nodes.
use Rattle.std.specs.Prelude.{◌≡◌, ◌++◌, ◌||◌, suc, not, List, ◌∷◌, filter, length}
use Rattle.htn_model.specs.Literal.{Literal}
use Rattle.htn_model.specs.Problem.{Child, Network}
use Rattle.htn_order.specs.Shapes.{chain}
use Rattle.heuristics.specs.Needs.{has_blocked, needed, needed_goal, Outlook}

-- each node comes before all later ones
abbrev pub IsChain : Network → Type 0
IsChain n = n.order ≡ chain (length n.children)

-- a chain with a node before all others
abbrev pub led_by : Child → Network → Network
led_by x n = record { children = x ∷ n.children; order = chain (suc (length n.children)) }

-- the literals of a list that a node does not give
abbrev pub not_given_by : Outlook → Child → List Literal → List Literal
not_given_by o x = filter (λ l. not (o.gives x l))

-- with a node before all others, a network needs the wants of that node, and those needs of the others that it does not
-- give; and for a goal the needs of the others for the goal that it does not give
pub record NeedsBefore (o : Outlook) (goal : List Literal) (x : Child) (n : Network) : Type 0 where
  pub nodes : needed o (led_by x n) ≡ o.wants x ++ not_given_by o x (needed o n)
  pub goals : needed_goal o goal (led_by x n) ≡ not_given_by o x (needed_goal o goal n)
  pub blocked : has_blocked o (led_by x n) ≡ (o.is_blocked x || has_blocked o n)

-- this is so for every outlook, goal, node and chain
abbrev pub ChainsNeed : Type 0
ChainsNeed = (o : Outlook) (goal : List Literal) (x : Child) (n : Network) → IsChain n → NeedsBefore o goal x n
