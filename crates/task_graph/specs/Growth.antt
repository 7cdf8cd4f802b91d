-- Steps in which a graph grows.
use Rattle.std.specs.Prelude.{◌≡◌, ℕ, ◌++◌, List, map}
use Rattle.std.specs.List.{All}
use Rattle.htn_model.specs.Problem.{Network}
use Rattle.htn_model.specs.Task.{Task}
use Rattle.task_graph.specs.Graph.{IsBarredThere, IsGrounded, IsGrown, IsNumbered, entry_of, nodes_of, open_networks}
use Rattle.task_graph.specs.declared.graph.TaskGraph.{TaskGraph}

-- nodes were added, each with its grounding, and nothing else
pub record HasNodes (t : Task) (old new : TaskGraph) : Type 0 where
  pub nodes : IsGrown (nodes_of old) (nodes_of new)
  pub grounded : IsGrounded t new
  pub decompositions : new.decompositions ≡ old.decompositions
  pub listed : new.listed ≡ old.listed
  pub cost : new.cost ≡ old.cost

-- these networks were added as decompositions of a node, apart from those with an action that is never carried out
pub record HasNetworks (t : Task) (id : ℕ) (networks : List Network) (old new : TaskGraph) : Type 0 where
  pub nodes : IsGrown (nodes_of old) (nodes_of new)
  pub grounded : IsGrounded t new
  pub numbered : All (IsNumbered (nodes_of old)) old.decompositions.items → All (IsNumbered (nodes_of new)) new.decompositions.items
  pub decompositions : IsGrown old.decompositions.items new.decompositions.items
  pub entries : map entry_of new.decompositions.items ≡ map entry_of old.decompositions.items ++ map (λ n. (id, n)) (open_networks t networks)
  pub barred : All (IsBarredThere t (nodes_of new)) networks
  pub listed : new.listed ≡ old.listed
  pub cost : new.cost ≡ old.cost
