use Rattle.hddl_meaning.proofs.OneTask.{tasks_are_unique}
use Rattle.hddl_meaning.proofs.pairs_have_one_task.Goals as goal

pub returns : goal.returns
returns c = record { unique = tasks_are_unique }
