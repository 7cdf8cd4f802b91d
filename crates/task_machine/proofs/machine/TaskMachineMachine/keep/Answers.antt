use Rattle.std.proofs.Common.{◌∙◌, ap, subst, sym}
use Rattle.std.proofs.lemmas.Option.{slice_get_within}
use Rattle.state_table.specs.Table.{IsSetOf}
use Rattle.task_machine.specs.Meaning.{allows, config_in, point_of}
use Rattle.task_machine.proofs.Owned.{with_state, words_of_number}
use Rattle.task_machine.proofs.machine.TaskMachineMachine.keep.Goals as goal

pub returns-in_ok-state-in-New-clause-owned : goal.returns-in_ok-state-in-New-clause-owned
returns-in_ok-state-in-New-clause-owned c =
    let tables = c.args.tables.now in
    let allowed = subst (allows tables) c.in-New.is c.requires.allowed in
    let set = subst (IsSetOf tables.atoms) (sym c.into_inner-words.ensures) allowed.0 in
    record {
      tables = with_state c.args.self.now.task.now tables c.keep.new.self c.into_inner-words.result
          c.in_ok-state-in-New.ensures.numbering set c.in_ok-state-in-New.ensures.others c.requires.own.tables;
      sized = c.requires.own.sized;
      goal = c.requires.own.goal;
      needed = c.requires.own.needed;
      noted = c.requires.own.noted;
    }

pub returns-in_ok-state-in-New-clause-known : goal.returns-in_ok-state-in-New-clause-known
returns-in_ok-state-in-New-clause-known c =
    let allowed = subst (allows c.args.tables.now) c.in-New.is c.requires.allowed in
    (slice_get_within c.keep.new.self c.in_ok-state-in-New.state c.into_inner-words.result c.in_ok-state-in-New.ensures.number, allowed.1)

pub returns-in_ok-state-in-New-clause-same : goal.returns-in_ok-state-in-New-clause-same
returns-in_ok-state-in-New-clause-same c =
    let tables = c.args.tables.now in
    ap (λ words. config_in tables words c.in-New.network)
    (words_of_number c.keep.new.self c.in_ok-state-in-New.state c.into_inner-words.result c.in_ok-state-in-New.ensures.number ∙ c.into_inner-words.ensures)
    ∙ sym (ap (point_of tables) c.in-New.is)
