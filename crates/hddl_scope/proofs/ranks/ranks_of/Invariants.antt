use Rattle.std.proofs.Common.{◌≡◌, map, take}
use Rattle.hddl_scope.specs.Ranks.{rank_of}
use Rattle.hddl_scope.proofs.ranks.ranks_of.Given as goal

abbrev pub invariant-loop-fault : goal.invariant-loop-fault
invariant-loop-fault l = l.ranks.items ≡ map rank_of (take l.fault-index l.faults)
