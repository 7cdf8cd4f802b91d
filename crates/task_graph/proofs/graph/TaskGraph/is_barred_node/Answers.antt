use Rattle.std.proofs.Common.{◌≡◌, ◌∙◌, Some, sym, ap}
use Rattle.std.specs.Prelude.{is_some}
use Rattle.std.proofs.lemmas.Bool.{and_from}
use Rattle.htn_ground.specs.Views.{child_view}
use Rattle.htn_model.specs.Grounding.{problem_of}
use Rattle.htn_model.specs.Problem.{action}
use Rattle.task_graph.specs.Barred.{is_barred_node}
use Rattle.task_graph.specs.Graph.{id_of, nodes_of}
use Rattle.task_graph.proofs.Listed.{barred_at}
use Rattle.task_graph.proofs.graph.TaskGraph.is_barred_node.Goals as goal

pub returns-in_ok-id-in-Action-clause-barred : goal.returns-in_ok-id-in-Action-clause-barred
returns-in_ok-id-in-Action-clause-barred c =
    let t = c.args.task.now in
    let g = c.add_node.new.self in
    let did = c.in_ok-id-in-Action.ensures in
    let is : child_view c.args.node.now ≡ action c.in-Action.field-0 = ap child_view c.in-Action.is in
    c.is_barred.ensures ∙ barred_at t g c.in-Action.field-0 c.in_ok-id-in-Action.id.index did.nodes.grounded (ap (id_of (nodes_of g)) (sym is) ∙ did.id) ∙ ap (is_barred_node (problem_of t)) (sym is)

pub returns-in_ok-id-in-Action-clause-there : goal.returns-in_ok-id-in-Action-clause-there
returns-in_ok-id-in-Action-clause-there c = λ passes.
    let t = c.args.task.now in
    let g = c.add_node.new.self in
    let did = c.in_ok-id-in-Action.ensures in
    let is : child_view c.args.node.now ≡ action c.in-Action.field-0 = ap child_view c.in-Action.is in
    let barred : c.is_barred.result ≡ is_barred_node (problem_of t) (child_view c.args.node.now) =
    c.is_barred.ensures ∙ barred_at t g c.in-Action.field-0 c.in_ok-id-in-Action.id.index did.nodes.grounded (ap (id_of (nodes_of g)) (sym is) ∙ did.id) ∙ ap (is_barred_node (problem_of t)) (sym is) in
    and_from (is_barred_node (problem_of t) (child_view c.args.node.now)) (is_some (id_of (nodes_of g) (child_view c.args.node.now))) (sym barred ∙ passes) (ap is_some did.id)
