use Rattle.std.proofs.Common.{◌∙◌, ap, slice_get, sym}
use Rattle.htn_ground.specs.Views.{child_view}
use Rattle.htn_model.specs.Equality.{child_eq-decides}
use Rattle.htn_model.specs.Problem.{child_eq}
use Rattle.state_table.proofs.Keys.{absent, found}
use Rattle.task_graph.proofs.Ids.{position-map}
use Rattle.call_nodes.specs.Nodes.{children}
use Rattle.call_nodes.proofs.call_nodes.CallNodes.keep.Goals as goal

pub returns-in-Some-clause-number : goal.returns-in-Some-clause-number
returns-in-Some-clause-number c =
    let n = c.args.self.now in
    let x = child_view c.args.node.now in
    ap (slice_get (children n)) c.in-Ok.ensures.1
    ∙ found child_eq child_eq-decides x (children n) c.in-Some.place (sym (position-map (child_eq x) child_view n.nodes.keys) ∙ sym c.in-Some.ensures.index)

pub add-requires-clause-none : goal.add-requires-clause-none
add-requires-clause-none c =
    let n = c.args.self.now in
    let x = child_view c.args.node.now in
    absent child_eq child_eq-decides x (children n) (sym (position-map (child_eq x) child_view n.nodes.keys) ∙ sym c.in_default.ensures.index)
