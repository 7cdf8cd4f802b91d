use Rattle.std.proofs.Common.{◌≡◌, ◌∙◌, Some, ap, option_map, slice_get}
use Rattle.std.proofs.lemmas.Option.{slice_get-map}
use Rattle.htn_ground.specs.Views.{child_view}
use Rattle.htn_ground.specs.declared.child.Child.TheVariants.{Task as TaskNode}
use Rattle.htn_model.specs.Problem.{task}
use Rattle.call_nodes.specs.Nodes.{children}
use Rattle.call_nodes.proofs.Staying.{node_stays}
use Rattle.call_nodes.proofs.call_nodes.CallNodes.list_task.Goals as goal

pub returns-clause-own : goal.returns-clause-own
returns-clause-own c =
    let t = c.args.task.now in
    let a = c.args.self.now in
    let m = c.operator_by.new.self in
    let g = c.in-Some-Task.goal in
    let key = c.in-Some-Task.ensures.key in
    let is = c.in-Some-Task.field-0-is in
    let keyed : slice_get a.nodes.keys c.args.node ≡ Some (TaskNode g) = cc (key, is) in
    let there : slice_get (children a) c.args.node ≡ Some (task g) = slice_get-map child_view a.nodes.keys c.args.node ∙ ap (option_map child_view) keyed in
    c.note.ensures.own t (task g) c.in_ok-operator.ensures.own (node_stays (children a) (children m) c.in_ok-operator.ensures.more.nodes c.args.node (task g) there)
    (c.in_ok-operator.ensures.operator g (c.deref-2.ensures.value ∙ c.in_ok-instances.ensures))
