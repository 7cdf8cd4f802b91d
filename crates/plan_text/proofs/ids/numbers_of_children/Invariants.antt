use Rattle.std.proofs.Common.{take}
use Rattle.plan_text.specs.Forest.{lists_of}
use Rattle.plan_text.specs.Numbers.{AreNumbersOfChildren}
use Rattle.plan_text.proofs.ids.numbers_of_children.Given as goal

abbrev pub invariant-loop-line : goal.invariant-loop-line
invariant-loop-line l = AreNumbersOfChildren l.ids.keys (lists_of l.numbers.items) (take l.line-index l.lines)
