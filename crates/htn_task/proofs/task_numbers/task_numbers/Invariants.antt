use Rattle.std.proofs.Common.{◌++◌, map, take}
use Rattle.htn_task.specs.Numbers.{AreNumbersOf}
use Rattle.htn_task.proofs.task_numbers.task_numbers.Given as goal

abbrev pub invariant-loop-place : goal.invariant-loop-place
invariant-loop-place l = AreNumbersOf (map (λ d. d.name) l.tasks ++ map (λ a. a.name) (take l.place l.actions)) l.numbers
