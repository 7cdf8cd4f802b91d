use Rattle.std.proofs.Common.{◌≡◌, ◌∙◌, [], ap, arith, get_or, sym}
use Rattle.std.proofs.lemmas.List.{get_or-map, length-map}
use Rattle.std.proofs.lemmas.List.Folds.{list_any_at}
use Rattle.htn_ground.specs.Views.{child_view, children_of}
use Rattle.htn_model.specs.Problem.{precondition}
use Rattle.task_graph.specs.Graph.{is_known_barred, nodes_of}
use Rattle.task_graph.proofs.graph.TaskGraph.has_barred.Goals as goal

pub returns-then-is_barred-clause-there : goal.returns-then-is_barred-clause-there
returns-then-is_barred-clause-there c = λ _.
    let known = is_known_barred c.args.task.now (nodes_of c.is_barred_node.new.self) in
    let nodes = c.args.nodes.now in
    let k = c.loop-node.node-index in
    let item = c.node-item.result in
    let long = length-map nodes child_view in
    list_any_at known (children_of nodes) k (precondition []) (omega (arith, long, c.loop-node-test.true))
    (ap known (get_or-map child_view nodes k item (precondition []) c.loop-node-test.true ∙ ap child_view (sym c.node-item.is)) ∙ c.in_ok-is_barred.ensures.there c.if-is_barred.true)
