use Rattle.hddl_meaning.proofs.SomeTask.{tasks_exist}
use Rattle.hddl_meaning.proofs.pairs_have_a_task.Goals as goal

pub returns : goal.returns
returns c = record { exist = tasks_exist }
