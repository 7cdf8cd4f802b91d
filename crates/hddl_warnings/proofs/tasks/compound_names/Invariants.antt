use Rattle.std.proofs.Common.{◌≡◌, map, take}
use Rattle.hddl_meaning.specs.Mentions.{mention_of}
use Rattle.hddl_warnings.proofs.tasks.compound_names.Given as goal

abbrev pub invariant-loop-task : goal.invariant-loop-task
invariant-loop-task l = l.mentions.items ≡ map (λ x. mention_of x.name) (take l.task-index l.tasks)
