use Rattle.std.proofs.Common.{take}
use Rattle.plan_text.specs.Numbers.{AreNumbersOf}
use Rattle.plan_text.proofs.ids.numbers_of.Given as goal

abbrev pub invariant-loop-id : goal.invariant-loop-id
invariant-loop-id l = AreNumbersOf l.ids.keys l.numbers.items (take l.id-index l.listed)
