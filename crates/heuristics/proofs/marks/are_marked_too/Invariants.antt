use Rattle.std.proofs.Common.{◌≡◌, ℕ, ◌<◌, bit_or, get_or}
use Rattle.heuristics.proofs.marks.are_marked_too.Given as goal

abbrev pub invariant-loop-k : goal.invariant-loop-k
invariant-loop-k l = (j : ℕ) → j < l.k → bit_or (get_or l.marks j 0) (get_or l.others j 0) ≡ get_or l.others j 0
