use Rattle.std.proofs.Common.{◌≡◌, None, take}
use Rattle.hddl_scope.specs.Numbers.{number_at, numbered}
use Rattle.hddl_scope.proofs.numbers.number_among.Given as goal

abbrev pub invariant-loop-one : goal.invariant-loop-one
invariant-loop-one l = number_at (numbered (take l.one-index l.few)) l.text ≡ None
