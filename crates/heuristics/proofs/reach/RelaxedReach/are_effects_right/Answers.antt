use Rattle.std.proofs.Common.{◌≡◌, ◌∙◌, Some, ap, sym}
use Rattle.std.specs.Option.{option_map}
use Rattle.htn_model.specs.Problem.{action}
use Rattle.task_graph.specs.Graph.{id_of, nodes_of}
use Rattle.task_graph.specs.declared.node_id.NodeId.{NodeId}
use Rattle.task_graph.proofs.Listed.{action_at}
use Rattle.heuristics.proofs.reach.RelaxedReach.are_effects_right.Goals as goal

pub returns-in-Some : goal.returns-in-Some
returns-in-Some c = λ passes t graph a is free.
    let g = c.args.graph.now in
    let id : id_of (nodes_of g) (action c.args.goal.now) ≡ Some c.in-Some.id.index = sym c.in_ok-found.ensures ∙ ap (option_map (λ (i : NodeId). i.index)) c.in-Some.is in
    c.has_effects_of.ensures passes a (c.action.ensures ∙ action_at t g c.args.goal.now c.in-Some.id.index graph.grounded id ∙ is)
