use Rattle.std.specs.List.Sorted.{IsStrictlySortedBy}
use Rattle.htn_task.proofs.task.Task.objects_of.Goals as goal

pub returns-in-None-clause-ascending : goal.returns-in-None-clause-ascending
unfolding IsStrictlySortedBy
returns-in-None-clause-ascending c = tt
