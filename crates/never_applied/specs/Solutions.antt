-- Properties of all nodes of all solutions.
use Rattle.std.specs.Prelude.{⊤}
use Rattle.htn_model.specs.Problem.{Problem}
use Rattle.htn_model.specs.Tree.{Node, leaf, step, compound, Nodes, no_nodes, node, Solution, IsSolution}

abbrev mutual
  -- a node and all nodes below it have the property
  pub Below : (Node → Type 0) → Node → Type 0
  Below P (leaf g) = P (leaf g)
  Below P (step literals) = P (step literals)
  Below P (compound t number nodes) = P (compound t number nodes) × AllBelow P nodes

  -- trees and all nodes below them have the property
  pub AllBelow : (Node → Type 0) → Nodes → Type 0
  AllBelow P no_nodes = ⊤
  AllBelow P (node n ns) = Below P n × AllBelow P ns

-- each node of each solution, of any size, has the property
abbrev pub InSolutions : Problem → (Node → Type 0) → Type 0
InSolutions problem P = (s : Solution) → IsSolution problem s → AllBelow P s.trees
