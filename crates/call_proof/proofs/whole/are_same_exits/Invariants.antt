use Rattle.std.proofs.Common.{◌≡◌, take}
use Rattle.call_proof.proofs.whole.are_same_exits.Given as goal

abbrev pub invariant-loop-k : goal.invariant-loop-k
invariant-loop-k l = take l.k l.one ≡ take l.k l.other
