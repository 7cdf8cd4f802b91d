use Rattle.std.proofs.Common.{◌≡◌, map, take}
use Rattle.plan_lines.proofs.instances.references.Given as goal

abbrev pub invariant-loop-subtask : goal.invariant-loop-subtask
invariant-loop-subtask l = map (λ s. s.now) l.all.items ≡ take l.subtask-index l.subtasks
