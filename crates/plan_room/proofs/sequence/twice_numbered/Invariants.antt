use Rattle.std.proofs.Common.{◌≡◌, ℕ, ◌<◌, get_or, length}
use Rattle.plan_room.proofs.sequence.twice_numbered.Given as goal

abbrev pub invariant-loop-position : goal.invariant-loop-position
invariant-loop-position l = record {
  size : length l.ahead.items ≡ l.position;
  each : (i : ℕ) → i < l.position → get_or l.ahead.items i (0, 0) ≡ (i, i);
}
