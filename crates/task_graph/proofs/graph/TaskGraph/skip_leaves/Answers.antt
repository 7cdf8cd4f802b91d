use Rattle.std.proofs.Common.{◌≡◌, ◌∙◌, ◌+◌, Some, slice_get, true, refl, sym, arith}
use Rattle.htn_ground.specs.Views.{child_view}
use Rattle.task_graph.specs.Graph.{is_leaf, nodes_of}
use Rattle.task_graph.specs.declared.graph.TaskGraph.{TaskGraph}
use Rattle.task_graph.proofs.Growing.{cut_here, later_itself, later_then, leaf_next, node_here}
use Rattle.task_graph.proofs.Ids.{grown_itself}
use Rattle.task_graph.proofs.graph.TaskGraph.skip_leaves.Goals as goal

pub loop-node-init : goal.loop-node-init
loop-node-init c = record { graph = c.requires; later = later_itself c.args.self.now; cost = refl }

pub loop-node-preserved : goal.loop-node-preserved
loop-node-preserved c =
    let t = c.args.task.now in
    let old = c.loop-node.self in
    let new : TaskGraph = record old { listed = old.listed + 1 } in
    let node = c.in-Some.node.now in
    let at : slice_get (nodes_of old) old.listed ≡ Some (child_view node) = node_here old old.listed node (sym c.in-Some.ensures.key) in
    let leaf : is_leaf (child_view node) ≡ true = sym c.is_leaf.ensures ∙ c.if-not-is_leaf.false in
    record {
      graph = leaf_next t old (child_view node) c.loop-node.invariant.graph at leaf;
      later = later_then c.args.self.now old new c.loop-node.invariant.later (record { nodes = grown_itself (nodes_of old); decompositions = grown_itself old.decompositions.items; listed = omega arith });
      cost = c.loop-node.invariant.cost;
    }

pub returns-then-not-is_leaf-clause-cut : goal.returns-then-not-is_leaf-clause-cut
returns-then-not-is_leaf-clause-cut c =
    let g = c.loop-node.self in
    let node = c.in-Some.node.now in
    cut_here g (child_view node) (node_here g g.listed node (sym c.in-Some.ensures.key)) (sym c.is_leaf.ensures ∙ c.if-not-is_leaf.true)
