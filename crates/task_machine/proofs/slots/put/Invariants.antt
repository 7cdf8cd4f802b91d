use Rattle.std.proofs.Common.{◌≡◌, ◌+◌, ◌-◌, ℕ, length}
use Rattle.task_machine.specs.Tables.{slot}
use Rattle.task_machine.proofs.slots.put.Given as goal

abbrev pub invariant-loop-slots : goal.invariant-loop-slots
invariant-loop-slots g l = (n : ℕ) → slot l.slots.items n ≡ slot l.initial.slots.items n

abbrev pub decreases-loop-slots : goal.decreases-loop-slots
decreases-loop-slots g l = l.place + 1 - length l.slots.items
