use Rattle.std.proofs.Common.{ℕ, List, take}
use Rattle.std.specs.List.{AllZip}
use Rattle.plan_messages.specs.Explanation.{IsNumberError}
use Rattle.plan_messages.specs.Numbers.{HasSightings}
use Rattle.plan_messages.proofs.structure.number_errors.Given as goal

abbrev pub invariant-loop-number : goal.invariant-loop-number
invariant-loop-number l = (lines : List (ℕ × ℕ)) → HasSightings l.plan lines l.ids l.seen → AllZip (IsNumberError l.plan lines) (take l.number l.ids) l.errors.items
