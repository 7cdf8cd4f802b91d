use Rattle.task_graph.specs.Graph.{nodes_of}
use Rattle.task_graph.proofs.Growing.{nodes_none, nodes_then}
use Rattle.task_graph.proofs.Ids.{ids_more}
use Rattle.task_graph.proofs.graph.TaskGraph.add_nodes.Goals as goal

pub loop-node-preserved : goal.loop-node-preserved
loop-node-preserved c =
    let old = c.loop-node.self in
    let new = c.add_node.new.self in
    let did = c.in_ok-id.ensures in
    record {
      nodes = nodes_then c.args.task.now c.args.self.now old new c.loop-node.invariant.nodes did.nodes;
      ids = ids_more (nodes_of old) (nodes_of new) c.loop-node.ids.items c.push.new.self.items c.args.nodes.now c.loop-node.node-index c.node-item.result c.in_ok-id.id c.loop-node-test.true c.node-item.is
          c.in_ok-push.ensures.items did.nodes.nodes c.loop-node.invariant.ids did.id;
    }
