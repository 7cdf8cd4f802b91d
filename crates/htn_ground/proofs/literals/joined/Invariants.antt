use Rattle.std.proofs.Common.{◌≡◌, ◌++◌, take}
use Rattle.htn_ground.proofs.literals.joined.Given as goal

abbrev pub invariant-loop-value : goal.invariant-loop-value
invariant-loop-value l = l.all ≡ l.values ++ take l.value-index l.more
