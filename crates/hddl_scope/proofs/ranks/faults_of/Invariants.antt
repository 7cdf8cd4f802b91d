use Rattle.std.proofs.Common.{◌≡◌, map, take}
use Rattle.hddl_scope.specs.Ranks.{fault_of}
use Rattle.hddl_scope.proofs.ranks.faults_of.Given as goal

abbrev pub invariant-loop-rank : goal.invariant-loop-rank
invariant-loop-rank l = l.faults.items ≡ map fault_of (take l.rank-index l.ranks)
