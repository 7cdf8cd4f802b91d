use Rattle.std.proofs.lemmas.Result.{on_ok_weaker}
use Rattle.task_machine.specs.Tables.{AreLater}
use Rattle.task_machine.proofs.Owned.{meaning_grown}
use Rattle.task_machine.proofs.machine.TaskMachineMachine.prepare_all.Goals as goal

pub prepare_all-requires-clause-known : goal.prepare_all-requires-clause-known
prepare_all-requires-clause-known g c κs within = λ k d inside. (c.requires.known k d inside).1

pub returns-clause-grown : goal.returns-clause-grown
returns-clause-grown g c =
    let s = c.args.tables.now in
    let v = c.prepare_all.new.self in
    on_ok_weaker c.prepare_all.result (λ (later : AreLater s v). meaning_grown c.args.self.now.task.now s v c.requires.own.tables later) c.prepare_all.ensures.later
