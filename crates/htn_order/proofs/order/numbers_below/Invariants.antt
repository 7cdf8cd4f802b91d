use Rattle.std.proofs.Common.{◌≡◌, ℕ, ◌<◌, get_or, length}
use Rattle.htn_order.proofs.order.numbers_below.Given as goal

abbrev pub invariant-loop-number : goal.invariant-loop-number
invariant-loop-number l = record {
  size : length l.numbers.items ≡ l.number;
  each : (i : ℕ) → i < l.number → get_or l.numbers.items i 0 ≡ i;
}
