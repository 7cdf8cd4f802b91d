use Rattle.std.proofs.Common.{◌≡◌, ◌*◌, drop}
use Rattle.htn_ground.specs.Search.{product}
use Rattle.htn_ground.proofs.counts.count_assignments.Given as goal

-- the count so far, times that of the lists that are left
abbrev pub invariant-loop-domain : goal.invariant-loop-domain
invariant-loop-domain l = l.count * product (drop l.domain-index l.domains) ≡ product l.domains
