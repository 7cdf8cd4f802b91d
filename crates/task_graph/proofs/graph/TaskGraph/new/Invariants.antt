use Rattle.std.proofs.Common.{◌≡◌, true, take}
use Rattle.std.specs.Prelude.{is_some}
use Rattle.std.specs.List.{All}
use Rattle.task_graph.specs.Graph.{id_of, nodes_of}
use Rattle.task_graph.specs.Growth.{HasNodes}
use Rattle.task_graph.proofs.graph.TaskGraph.new.Given as goal

abbrev pub invariant-loop-instance : goal.invariant-loop-instance
invariant-loop-instance l = record {
  nodes : HasNodes l.task l.initial.graph l.graph;
  starts : All (λ i. All (λ x. is_some (id_of (nodes_of l.graph) x) ≡ true) i.network.children) (take l.instance-index l.instance-items);
}
