use Rattle.std.proofs.Common.{◌≡◌, ◌∙◌, ◌+◌, [], List, true, map, take, sym, ap, subst, arith}
use Rattle.std.specs.Prelude.{is_some}
use Rattle.std.specs.List.{All}
use Rattle.std.proofs.lemmas.List.{take_all}
use Rattle.std.proofs.lemmas.List.Elements.{All-more, All-weaker}
use Rattle.htn_ground.specs.Views.{children_of}
use Rattle.htn_model.specs.Instance.{Instance}
use Rattle.htn_model.specs.Problem.{Child}
use Rattle.task_graph.specs.Graph.{id_of, nodes_of}
use Rattle.task_graph.specs.declared.graph.TaskGraph.{TaskGraph}
use Rattle.task_graph.proofs.Growing.{graph_start, nodes_then}
use Rattle.task_graph.proofs.Ids.{has_id_stays, ids_there}
use Rattle.task_graph.proofs.graph.TaskGraph.new.Goals as goal

-- all nodes of an instance have ids
abbrev IsThere : TaskGraph → Instance → Type 0
IsThere g i = All (λ x. is_some (id_of (nodes_of g) x) ≡ true) i.network.children

pub loop-instance-preserved : goal.loop-instance-preserved
loop-instance-preserved c =
    let t = c.args.task.now in
    let first : TaskGraph = record { nodes = c.new.result; groundings = c.new-2.result; decompositions = c.new-3.result; listed = 0; cost = 0 } in
    let old = c.loop-instance.graph in
    let new = c.add_nodes.new.self in
    let did = c.in_ok-add_nodes.ensures in
    let items = c.deref-instance-items.result.now in
    let k = c.loop-instance.instance-index in
    let item = c.instance-item.result in
    let nodes : children_of c.as_slice.result.now ≡ item.network.children = c.as_slice.ensures ∙ c.children.ensures in
    let here : IsThere new item = subst (All (λ x. is_some (id_of (nodes_of new) x) ≡ true)) nodes (ids_there (nodes_of new) c.in_ok-add_nodes.field-0.items (children_of c.as_slice.result.now) did.ids) in
    let before : All (IsThere new) (take k items) =
    All-weaker (IsThere old) (IsThere new)
    (λ i there. All-weaker (λ x. is_some (id_of (nodes_of old) x) ≡ true) (λ x. is_some (id_of (nodes_of new) x) ≡ true) (λ x has. has_id_stays (nodes_of old) (nodes_of new) x did.nodes.nodes has) i.network.children there)
    (take k items) c.loop-instance.invariant.starts in
    record {
      nodes = nodes_then t first old new c.loop-instance.invariant.nodes did.nodes;
      starts = All-more (IsThere new) items k item c.loop-instance-test.true before (subst (IsThere new) c.instance-item.is here);
    }

pub returns : goal.returns
returns c =
    let g = c.loop-instance.graph in
    let i = c.loop-instance.invariant in
    let items = c.deref-instance-items.result.now in
    graph_start c.args.task.now g
    (subst (All (IsThere g))
    (take_all c.loop-instance.instance-index items (omega (arith, c.loop-instance-test.false)) ∙ c.deref-instance-items.ensures.value ∙ c.in_ok-initials.ensures) i.starts)
    i.nodes.grounded (ap (λ v. v.items) i.nodes.decompositions ∙ c.new-3.ensures.items) i.nodes.listed i.nodes.cost
