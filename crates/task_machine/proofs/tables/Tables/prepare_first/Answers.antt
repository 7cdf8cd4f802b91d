use Rattle.task_machine.proofs.Blocks.{listed_some}
use Rattle.task_machine.proofs.Owned.{later_tables_itself}
use Rattle.task_machine.proofs.tables.Tables.prepare_first.Goals as goal

pub returns-in_default-clause-later : goal.returns-in_default-clause-later
returns-in_default-clause-later c = later_tables_itself c.args.task.now c.args.self.now c.requires.own

pub returns-clause-listed : goal.returns-clause-listed
returns-clause-listed c =
    let did = c.in_ok-prepare_instances.ensures in
    listed_some c.args.self.now c.prepare_instances.new.self c.requires.own.networks did.later c.args.one.network c.args.one.node c.in-Some.node c.in-Some.is c.requires.known c.requires.first did.there
