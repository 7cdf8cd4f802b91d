use Rattle.std.proofs.Common.{◌≡◌, take}
use Rattle.hddl_uses.proofs.arguments.are_same.Given as goal

abbrev pub invariant-loop-index : goal.invariant-loop-index
invariant-loop-index l = take l.index l.a ≡ take l.index l.b
