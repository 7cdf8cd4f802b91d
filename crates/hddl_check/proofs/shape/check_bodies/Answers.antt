use Rattle.std.proofs.Common.{◌++◌, ap, List}
use Rattle.std.specs.List.{flat_map}
use Rattle.hddl_uses.specs.Contexts.{Fails, PassedOver}
use Rattle.hddl_uses.specs.Parts.{Part}
use Rattle.hddl_check.specs.TextParts.{predicate_parts, task_parts, method_parts, method_network_parts, action_parts}
use Rattle.hddl_scope.proofs.Adding.{Adds-append, Adds-list}
use Rattle.hddl_check.proofs.shape.check_bodies.Goals as goal

pub returns : goal.returns
returns c =
    let O = PassedOver c.args.context.now in
    let P = Fails c.args.context.now in
    let d = c.args.context.now.domain.now in
    let networks : List Part = flat_map method_network_parts d.methods in
    let actions : List Part = flat_map action_parts d.actions in
    let methods : List Part = flat_map method_parts d.methods in
    let tasks : List Part = flat_map task_parts d.tasks in
    Adds-append O P (flat_map predicate_parts d.predicates) (tasks ++ (methods ++ (networks ++ actions)))
    (Adds-list O P (ap (flat_map predicate_parts) c.as_slice.ensures) c.in_ok-check_predicates.ensures)
    (Adds-append O P tasks (methods ++ (networks ++ actions)) (Adds-list O P (ap (flat_map task_parts) c.as_slice-2.ensures) c.in_ok-check_tasks.ensures)
    (Adds-append O P methods (networks ++ actions) (Adds-list O P (ap (flat_map method_parts) c.as_slice-3.ensures) c.in_ok-check_methods.ensures)
    (Adds-append O P networks actions (Adds-list O P (ap (flat_map method_network_parts) c.as_slice-4.ensures) c.in_ok-check_method_networks.ensures)
    (Adds-list O P (ap (flat_map action_parts) c.as_slice-5.ensures) c.in_ok-check_actions.ensures))))
