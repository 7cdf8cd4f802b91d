use Rattle.std.proofs.Common.{◌≡◌, map, take}
use Rattle.call_proof.proofs.Ruled.{into}
use Rattle.call_proof.proofs.rules.are_instances.Given as goal

abbrev pub invariant-loop-k : goal.invariant-loop-k
invariant-loop-k l = take l.k l.rules ≡ take l.k (map (into l.state) l.lists)
