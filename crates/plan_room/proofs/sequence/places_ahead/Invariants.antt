use Rattle.std.proofs.Common.{◌≡◌, ℕ, ◌<◌, get_or, length}
use Rattle.plan_room.specs.Ranks.{ahead_of}
use Rattle.plan_room.proofs.sequence.places_ahead.Given as goal

abbrev pub invariant-loop-position : goal.invariant-loop-position
invariant-loop-position l = record {
  size : length l.ahead.items ≡ l.position;
  each : (a : ℕ) → a < l.position → get_or l.ahead.items a (0, 0) ≡ ahead_of (get_or l.ranks a 0) (get_or l.starts (get_or l.ranks a 0) 0);
}
