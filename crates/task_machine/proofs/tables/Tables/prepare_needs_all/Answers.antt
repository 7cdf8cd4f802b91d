use Rattle.std.proofs.Common.{◌∙◌}
use Rattle.task_machine.proofs.Owned.{later_needs, with_atoms, with_needs}
use Rattle.task_machine.specs.declared.tables.Tables.{Tables}
use Rattle.task_machine.proofs.tables.Tables.prepare_needs_all.Goals as goal

pub returns-clause-owned : goal.returns-clause-owned
returns-clause-owned g c = λ t sizes own sized goals.
    let s = c.args.self.now in
    let did = c.in_ok-keep_up_all.ensures in
    let more : Tables = record s { atoms = c.keep_up_all.new.atoms } in
    record {
      tables = with_needs t more c.keep_up_all.new.self (with_atoms t s c.keep_up_all.new.atoms did.later own);
      sized = sized;
      goal = did.goal ∙ goals;
      needed = did.kept;
      noted = did.noted;
    }

pub returns-clause-later : goal.returns-clause-later
returns-clause-later g c = λ t own. later_needs t c.args.self.now c.keep_up_all.new.atoms c.keep_up_all.new.self c.in_ok-keep_up_all.ensures.later
