use Rattle.std.proofs.Common.{◌≡◌, ◌<◌, ℕ, bit_and, get_or}
use Rattle.std.specs.Int.{bit_not, w64}
use Rattle.state_table.proofs.bits.are_bits_in.Given as goal

-- the words before one have no bits that the others lack
abbrev pub invariant-loop-k : goal.invariant-loop-k
invariant-loop-k l = (j : ℕ) → j < l.k → bit_and (get_or l.words j 0) (bit_not w64 (get_or l.others j 0)) ≡ 0
