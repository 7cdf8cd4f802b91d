use Rattle.std.proofs.Common.{◌∙◌, ap, subst, sym}
use Rattle.std.proofs.lemmas.Option.{slice_get_within}
use Rattle.state_table.specs.Table.{IsSetOf}
use Rattle.task_machine.specs.Meaning.{allows, config_in, point_of}
use Rattle.task_machine.proofs.Owned.{state_unknown, words_of_number}
use Rattle.task_machine.proofs.Results.{none_anyway}
use Rattle.task_machine.proofs.machine.TaskMachineMachine.find.Goals as goal

pub returns-in_err-state-in-New-clause-none : goal.returns-in_err-state-in-New-clause-none
returns-in_err-state-in-New-clause-none c =
    let tables = c.args.tables.now in
    let words = c.deref.result.now in
    let allowed = subst (allows tables) c.in-New.is c.requires.allowed in
    let set = subst (IsSetOf tables.atoms) (sym c.deref.ensures) allowed.0 in
    none_anyway c.from_residual.result
    (λ d known same. state_unknown c.args.self.now.task.now tables c.requires.own.tables words c.in-New.network set c.in_err-state-in-New.ensures.none d known
    (same ∙ ap (point_of tables) c.in-New.is ∙ ap (λ w. config_in tables w c.in-New.network) (sym c.deref.ensures)))

pub returns-in_ok-state-in-New-clause-known : goal.returns-in_ok-state-in-New-clause-known
returns-in_ok-state-in-New-clause-known c =
    let tables = c.args.tables.now in
    let allowed = subst (allows tables) c.in-New.is c.requires.allowed in
    (slice_get_within tables.states c.in_ok-state-in-New.state c.deref.result.now c.in_ok-state-in-New.ensures.some, allowed.1)

pub returns-in_ok-state-in-New-clause-same : goal.returns-in_ok-state-in-New-clause-same
returns-in_ok-state-in-New-clause-same c =
    let tables = c.args.tables.now in
    ap (λ words. config_in tables words c.in-New.network)
    (words_of_number tables.states c.in_ok-state-in-New.state c.deref.result.now c.in_ok-state-in-New.ensures.some ∙ c.deref.ensures)
    ∙ sym (ap (point_of tables) c.in-New.is)
