use Rattle.std.proofs.Common.{◌≡◌, ◌⊎◌}
use Rattle.htn_order.specs.Closure.{Precedes}
use Rattle.hddl_uses.proofs.cycles.comes_back.Given as goal

-- the way began here, or what stands here leads to where it began
abbrev pub invariant-back : goal.invariant-back
invariant-back l = (l.at ≡ l.start) ⊎ Precedes l.pairs l.at l.start
