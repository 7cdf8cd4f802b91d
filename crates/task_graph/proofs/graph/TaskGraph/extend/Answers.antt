use Rattle.std.proofs.Common.{◌≡◌, ◌∙◌, ◌+◌, List, Some, length, map, slice_get, sym, ap, arith}
use Rattle.std.specs.List.{sum_by}
use Rattle.htn_ground.specs.Views.{child_view}
use Rattle.htn_model.specs.Instance.{Instance}
use Rattle.htn_model.specs.Problem.{task}
use Rattle.task_graph.specs.Graph.{live_networks, nodes_of}
use Rattle.task_graph.proofs.Growing.{listed_next, node_here}
use Rattle.task_graph.proofs.graph.TaskGraph.extend.Goals as goal

pub skip_leaves-requires-in-tasks : goal.skip_leaves-requires-in-tasks
skip_leaves-requires-in-tasks c =
    let t = c.args.task.now in
    let old = c.tasks.self in
    let h = c.in-Task.goal in
    let at : slice_get (nodes_of old) old.listed ≡ Some (task h) = node_here old old.listed c.in-Some.node.now (sym c.in-Some.ensures.key) ∙ ap (λ v. Some (child_view v)) c.in-Task.is in
    let live : map (λ (i : Instance). i.network) c.deref-in-tasks.result.now ≡ live_networks t (task h) =
    ap (map (λ (i : Instance). i.network)) (c.deref-in-tasks.ensures.value ∙ c.in_ok-instances.ensures) in
    let cost : c.cost_of-cost.result ≡ 1 + sum_by (λ (i : Instance). 1 + length i.network.children) c.deref-in-tasks.result.now =
    (let same : sum_by (λ (i : Instance). 1 + length i.network.children) c.deref.result.now ≡ sum_by (λ (i : Instance). 1 + length i.network.children) c.deref-in-tasks.result.now =
    ap (sum_by (λ (i : Instance). 1 + length i.network.children)) (c.deref.ensures.value ∙ sym c.deref-in-tasks.ensures.value) in
    omega (arith, same, c.cost_of-cost.ensures, c.if-cost.false)) in
    listed_next t old c.add_networks.new.self h c.in-Ok.index (old.cost + c.cost_of-cost.result) c.deref-in-tasks.result.now c.tasks.invariant.graph at c.in_ok-add_networks.ensures c.in-Ok.ensures.1 live
    (ap (λ k. old.cost + k) cost)
