use Rattle.std.proofs.Common.{◌<◌, get_or, ℕ}
use Rattle.hddl_uses.proofs.Circling.{Rises}
use Rattle.hddl_uses.proofs.cycles.all_rise.Given as goal

abbrev pub invariant-loop-pair : goal.invariant-loop-pair
invariant-loop-pair l = (k : ℕ) → k < l.pair-index → Rises l.ranks (get_or l.pairs k (0, 0))
