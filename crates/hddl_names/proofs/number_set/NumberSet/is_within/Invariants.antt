use Rattle.std.proofs.Common.{◌≡◌, ◌<◌, ℕ, get_or, bit_or}
use Rattle.hddl_names.proofs.number_set.NumberSet.is_within.Given as goal

abbrev pub invariant-loop-k : goal.invariant-loop-k
invariant-loop-k l = (j : ℕ) → j < l.k → bit_or (get_or l.self j 0) (get_or l.other j 0) ≡ get_or l.other j 0
