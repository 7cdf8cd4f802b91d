use Rattle.hddl_meaning.proofs.WellTyped.{tasks_are_well_typed}
use Rattle.hddl_meaning.proofs.tasks_are_well_typed.Goals as goal

pub returns : goal.returns
returns c = record { typed = tasks_are_well_typed }
