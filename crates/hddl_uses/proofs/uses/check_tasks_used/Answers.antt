use Rattle.std.proofs.Common.{map, refl}
use Rattle.std.proofs.lemmas.List.{take_all}
use Rattle.hddl_words.specs.declared.network.SubtaskText.{SubtaskText}
use Rattle.hddl_meaning.specs.Uses.{Use}
use Rattle.hddl_meaning.specs.declared.fault.CheckFault.{CheckFault}
use Rattle.hddl_uses.specs.Contexts.{Fails, PassedOver}
use Rattle.hddl_uses.specs.Parts.{Subtask}
use Rattle.hddl_scope.proofs.Adding.{Adds-item, Adds-list, Adds-map, Adds-nil}
use Rattle.hddl_uses.proofs.uses.check_tasks_used.Goals as goal

pub loop-subtask-init : goal.loop-subtask-init
loop-subtask-init c =
    Adds-nil (λ (x : SubtaskText). PassedOver c.args.context.now (Subtask (record { variables = c.args.scope.now; atom = x.task })))
    (λ (x : SubtaskText). Fails c.args.context.now (Subtask (record { variables = c.args.scope.now; atom = x.task }))) refl

pub loop-subtask-preserved : goal.loop-subtask-preserved
loop-subtask-preserved c =
    Adds-item (λ (x : SubtaskText). PassedOver c.args.context.now (Subtask (record { variables = c.args.scope.now; atom = x.task })))
    (λ (x : SubtaskText). Fails c.args.context.now (Subtask (record { variables = c.args.scope.now; atom = x.task }))) c.args.subtasks.now c.loop-subtask.subtask-index c.subtask-item.result
    c.loop-subtask-test.true c.subtask-item.is c.loop-subtask.invariant c.in_ok-check_subtask.ensures

pub returns : goal.returns
returns c =
    let O = PassedOver c.args.context.now in
    let P = Fails c.args.context.now in
    let as_use : SubtaskText → Use = λ x. record { variables = c.args.scope.now; atom = x.task } in
    let N : SubtaskText → CheckFault → Type 0 = λ x. O (Subtask (as_use x)) in
    let R : SubtaskText → CheckFault → Type 0 = λ x. P (Subtask (as_use x)) in
    Adds-map O P Subtask (map as_use c.args.subtasks.now)
    (Adds-map (λ u. O (Subtask u)) (λ u. P (Subtask u)) as_use c.args.subtasks.now (Adds-list N R (take_all c.loop-subtask.subtask-index c.args.subtasks.now c.loop-subtask-test.false) c.loop-subtask.invariant))
