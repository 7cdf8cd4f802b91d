use Rattle.std.proofs.Common.{◌≡◌, drop}
use Rattle.std.specs.List.{list_any}
use Rattle.htn_ground.specs.Views.{children_of}
use Rattle.htn_model.specs.Grounding.{problem_of}
use Rattle.task_graph.specs.Barred.{is_barred_node}
use Rattle.task_graph.specs.Growth.{HasNodes}
use Rattle.task_graph.proofs.graph.TaskGraph.has_barred.Given as goal

abbrev pub invariant-loop-node : goal.invariant-loop-node
invariant-loop-node l = record {
  nodes : HasNodes l.task l.initial.self l.self;
  rest : list_any (is_barred_node (problem_of l.task)) (children_of (drop l.node-index l.nodes)) ≡ list_any (is_barred_node (problem_of l.task)) (children_of l.nodes);
}
