use Rattle.std.proofs.Common.{◌≡◌, ◌∙◌, ◌++◌, ap, List, map}
use Rattle.hddl_words.specs.declared.term.VariableGroup.{VariableGroup}
use Rattle.hddl_words.specs.declared.network.SubtaskText.{SubtaskText}
use Rattle.std.specs.List.{flat_map}
use Rattle.hddl_meaning.specs.Uses.{Variable, parameters_of, sides, subtasks_in, constraints_in}
use Rattle.hddl_uses.specs.Contexts.{Fails, PassedOver}
use Rattle.hddl_uses.specs.Parts.{Part, Side, Subtask}
use Rattle.hddl_check.specs.TextParts.{parameter_parts}
use Rattle.hddl_scope.proofs.Adding.{Adds-append, Adds-list}
use Rattle.hddl_check.proofs.schemas.check_initial_in.Goals as goal

pub returns : goal.returns
returns c =
    let O = PassedOver c.args.context.now in
    let P = Fails c.args.context.now in
    let p = c.args.problem.now in
    let gs : List VariableGroup = p.htn.parameters in
    let own : List Part = parameter_parts gs in
    let w : List Variable = parameters_of gs in
    let scope : c.args.scope.now ≡ w = c.requires in
    let constraints : List Part = map Side (constraints_in w p.htn.network) in
    let subtasks : List Part = map Subtask (subtasks_in w p.htn.network) in
    Adds-append O P own (constraints ++ subtasks)
    (Adds-list O P (ap (λ (g : List VariableGroup). parameter_parts g) c.as_slice.ensures) c.in_ok-check_parameters.ensures)
    (Adds-append O P constraints subtasks
    (Adds-list O P (λ i. map Side (flat_map (sides (scope i)) (c.as_slice-2.ensures i))) c.in_ok-check_constraints.ensures)
    (Adds-list O P
    (λ i. map Subtask (map (λ (s : SubtaskText). record { variables = scope i; atom = s.task }) (c.as_slice-3.ensures i)))
    c.in_ok-check_tasks_used.ensures))
