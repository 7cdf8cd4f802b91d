use Rattle.std.proofs.Common.{◌≡◌, ◌++◌, map, take}
use Rattle.diagnostics.specs.Near.{names_of}
use Rattle.pair_messages.proofs.near.push_tasks.Given as goal

-- those so far
abbrev pub invariant-loop-task : goal.invariant-loop-task
invariant-loop-task l = names_of l.names.items ≡ names_of l.initial.names.items ++ map (λ x. x.name.text) (take l.task-index l.tasks)
