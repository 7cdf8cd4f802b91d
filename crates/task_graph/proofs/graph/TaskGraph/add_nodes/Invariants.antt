use Rattle.std.proofs.Common.{take}
use Rattle.htn_ground.specs.Views.{children_of}
use Rattle.task_graph.specs.Graph.{AreIds, nodes_of}
use Rattle.task_graph.specs.Growth.{HasNodes}
use Rattle.task_graph.proofs.graph.TaskGraph.add_nodes.Given as goal

abbrev pub invariant-loop-node : goal.invariant-loop-node
invariant-loop-node l = record {
  nodes : HasNodes l.task l.initial.self l.self;
  ids : AreIds (nodes_of l.self) l.ids.items (children_of (take l.node-index l.nodes));
}
