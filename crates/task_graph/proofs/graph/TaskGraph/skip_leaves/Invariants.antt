use Rattle.std.proofs.Common.{◌≡◌, ◌-◌, length}
use Rattle.task_graph.specs.Graph.{IsGraph, IsLater}
use Rattle.task_graph.proofs.graph.TaskGraph.skip_leaves.Given as goal

abbrev pub invariant-loop-node : goal.invariant-loop-node
invariant-loop-node l = record {
  graph : IsGraph l.task l.self;
  later : IsLater l.initial.self l.self;
  cost : l.self.cost ≡ l.initial.self.cost;
}

abbrev pub decreases-loop-node : goal.decreases-loop-node
decreases-loop-node l = length l.self.nodes.keys - l.self.listed
