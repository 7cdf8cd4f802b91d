use Rattle.std.proofs.Common.{◌≡◌, ◌++◌, map, take}
use Rattle.hddl_meaning.specs.Mentions.{mention_of}
use Rattle.hddl_scope.proofs.lists.task_names.Given as goal

abbrev pub invariant-loop-task : goal.invariant-loop-task
invariant-loop-task l = l.mentions.items ≡ map (λ x. mention_of x.name) (take l.task-index l.tasks)

abbrev pub invariant-loop-action : goal.invariant-loop-action
invariant-loop-action l = l.mentions.items ≡ l.initial.mentions.items ++ map (λ x. mention_of x.name) (take l.action-index l.actions)
