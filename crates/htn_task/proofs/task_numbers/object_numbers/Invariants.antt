use Rattle.std.proofs.Common.{map, take}
use Rattle.htn_task.specs.Numbers.{AreNumbersOf}
use Rattle.htn_task.proofs.task_numbers.object_numbers.Given as goal

abbrev pub invariant-loop-number : goal.invariant-loop-number
invariant-loop-number l = AreNumbersOf (map (λ name. name) (take l.number l.objects)) l.numbers
