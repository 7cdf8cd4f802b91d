use Rattle.std.proofs.Common.{◌≡◌, ◌∙◌, ◌++◌, ◌∷◌, ap, subst, List, map}
use Rattle.hddl_words.specs.declared.term.VariableGroup.{VariableGroup}
use Rattle.hddl_words.specs.declared.network.SubtaskText.{SubtaskText}
use Rattle.std.specs.List.{flat_map}
use Rattle.hddl_meaning.specs.Uses.{Variable, parameters_of, sides, subtasks_in, constraints_in, schema_of_method}
use Rattle.hddl_uses.specs.Contexts.{Fails, PassedInside, PassedOver}
use Rattle.hddl_scope.specs.Findings.{Adds, AddsAny}
use Rattle.hddl_uses.specs.Parts.{Part, Decomposed, Side, Subtask, conditions_parts}
use Rattle.hddl_check.specs.TextParts.{inner_parts, parameter_parts}
use Rattle.hddl_scope.proofs.Adding.{Adds-append, Adds-cons, Adds-every, Adds-list}
use Rattle.hddl_uses.proofs.Arguing.{all_inside}
use Rattle.hddl_check.proofs.SchemaLists.{method_is}
use Rattle.hddl_check.proofs.Inside.{schema_added}
use Rattle.hddl_check.proofs.schemas.check_method_in.Goals as goal

pub returns : goal.returns
returns c =
    let context = c.args.context.now in
    let P = Fails context in
    let m = c.args.method.now in
    let w : List Variable = parameters_of m.parameters in
    let N = PassedInside context w in
    let scope : c.args.scope.now ≡ w = c.requires in
    let kept : c.check_conditions.new.scope ≡ w = c.in_ok-check_conditions.ensures.kept ∙ scope in
    let conditions : List Part = conditions_parts w m.precondition in
    let constraints : List Part = map Side (constraints_in w m.network) in
    let task : Part = Decomposed (record { variables = w; atom = m.task }) in
    let subtasks : List Part = map Subtask (subtasks_in w m.network) in
    schema_added context m.parameters (inner_parts (schema_of_method m))
    (Adds-list (PassedOver context) P (ap (λ (g : List VariableGroup). parameter_parts g) c.as_slice.ensures) c.in_ok-check_parameters.ensures)
    (Adds-list N P (method_is m)
    (Adds-append N P conditions (constraints ++ (task ∷ subtasks))
    (subst (λ v. AddsAny (PassedInside context v) P (conditions_parts v m.precondition) c.check_parameters.new.found c.check_conditions.new.found) scope
    (Adds-list (PassedInside context c.args.scope.now) P (ap (conditions_parts c.args.scope.now) c.as_slice-2.ensures) c.in_ok-check_conditions.ensures.found))
    (Adds-append N P constraints (task ∷ subtasks)
    (all_inside context w constraints (Adds-list (PassedOver context) P (λ i. map Side (flat_map (sides (kept i)) (c.as_slice-3.ensures i))) c.in_ok-check_constraints.ensures))
    (Adds-cons N P task subtasks
    (Adds-every
    (subst (λ (w : List Variable). Adds (λ _. ⊥) (P (Decomposed (record { variables = w; atom = m.task }))) c.check_constraints.new.found c.check_decomposed.new.found) kept c.in_ok-check_decomposed.ensures))
    (all_inside context w subtasks
    (Adds-list (PassedOver context) P
    (λ i. map Subtask (map (λ (s : SubtaskText). record { variables = kept i; atom = s.task }) (c.as_slice-4.ensures i)))
    c.in_ok-check_tasks_used.ensures))))))
