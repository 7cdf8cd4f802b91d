use Rattle.std.proofs.Common.{◌≡◌, ◌∙◌, ◌∷◌, ◌++◌, [], List, true, false, refl, sym, ap, ap₂, subst}
use Rattle.std.specs.List.{list_any}
use Rattle.htn_ground.specs.Views.{children_of}
use Rattle.htn_model.specs.Grounding.{problem_of}
use Rattle.htn_model.specs.Problem.{Child, Network, Order}
use Rattle.task_graph.specs.Barred.{has_barred, is_barred_node}
use Rattle.task_graph.specs.Graph.{AreIds, entry_of, is_known_barred, nodes_of}
use Rattle.task_graph.specs.declared.decomposition.Decomposition.{Decomposition}
use Rattle.task_graph.proofs.Growing.{network_added, network_barred, nodes_then}
use Rattle.task_graph.proofs.graph.TaskGraph.add_network.Goals as goal

pub returns-then-has_barred : goal.returns-then-has_barred
returns-then-has_barred c =
    let t = c.args.task.now in
    let n = c.args.instance.now.network in
    let did = c.in_ok-has_barred.ensures in
    let nodes : children_of c.as_slice.result.now ≡ n.children = c.as_slice.ensures ∙ c.children-children.ensures in
    let has : has_barred (problem_of t) n ≡ true = ap (list_any (is_barred_node (problem_of t))) (sym nodes) ∙ sym did.barred ∙ c.if-has_barred.true in
    let there : list_any (is_known_barred t (nodes_of c.has_barred.new.self)) n.children ≡ true =
    subst (λ (l : List Child). list_any (is_known_barred t (nodes_of c.has_barred.new.self)) l ≡ true) nodes (did.there c.if-has_barred.true) in
    network_barred t c.args.id.index n c.args.self.now c.has_barred.new.self did.nodes has there

pub returns : goal.returns
returns c =
    let t = c.args.task.now in
    let n = c.args.instance.now.network in
    let did = c.in_ok-has_barred.ensures in
    let b = c.add_nodes.new.self in
    let d : Decomposition = record { task = c.args.id; nodes = c.in_ok-nodes.nodes; children = c.in_ok-clone.field-0; order = c.in_ok-clone-2.field-0 } in
    let nodes : children_of c.as_slice.result.now ≡ n.children = c.as_slice.ensures ∙ c.children-children.ensures in
    let free : has_barred (problem_of t) n ≡ false = ap (list_any (is_barred_node (problem_of t))) (sym nodes) ∙ sym did.barred ∙ c.if-has_barred.false in
    let children : d.children ≡ n.children = c.in_ok-clone.ensures.cases ∙ c.children-children.ensures in
    let order : d.order ≡ n.order = c.in_ok-clone-2.ensures.cases ∙ c.order.ensures in
    let ids : AreIds (nodes_of b) d.nodes.items d.children =
    subst (AreIds (nodes_of b) d.nodes.items) (c.as_slice-2.ensures ∙ sym c.in_ok-clone.ensures.cases) c.in_ok-nodes.ensures.ids in
    network_added t c.args.id.index n c.args.self.now b (record b { decompositions = c.push.new.self }) d
    (nodes_then t c.args.self.now c.has_barred.new.self b did.nodes c.in_ok-nodes.ensures.nodes) free refl refl c.in_ok-push.ensures.items refl refl
    (ap₂ (λ (xs : List Child) (o : Order). (c.args.id.index, record { children = xs; order = o })) children order) ids
