use Rattle.std.proofs.Common.{ap, refl, List}
use Rattle.hddl_words.specs.declared.term.VariableGroup.{VariableGroup}
use Rattle.hddl_meaning.specs.Mentions.{typed_variables}
use Rattle.hddl_uses.specs.Parts.{type_parts}
use Rattle.std.proofs.lemmas.List.{take_all}
use Rattle.std.specs.List.{flat_map}
use Rattle.hddl_uses.specs.Contexts.{Fails, PassedOver}
use Rattle.hddl_check.specs.TextParts.{task_parts}
use Rattle.hddl_scope.proofs.Adding.{Adds-next, Adds-nil, Adds-list}
use Rattle.hddl_check.proofs.declarations.check_tasks.Goals as goal

pub loop-task-init : goal.loop-task-init
loop-task-init c = Adds-nil (PassedOver c.args.context.now) (Fails c.args.context.now) refl

pub loop-task-preserved : goal.loop-task-preserved
loop-task-preserved c =
    Adds-next (PassedOver c.args.context.now) (Fails c.args.context.now) task_parts c.args.tasks.now c.loop-task.task-index c.task-item.result c.loop-task-test.true c.task-item.is
    c.loop-task.invariant
    (Adds-list (PassedOver c.args.context.now) (Fails c.args.context.now) (ap (λ (g : List VariableGroup). type_parts (typed_variables g)) c.as_slice.ensures) c.in_ok-check_variable_types.ensures)

pub returns : goal.returns
returns c =
    Adds-list (PassedOver c.args.context.now) (Fails c.args.context.now) (ap (flat_map task_parts) (take_all c.loop-task.task-index c.args.tasks.now c.loop-task-test.false)) c.loop-task.invariant
