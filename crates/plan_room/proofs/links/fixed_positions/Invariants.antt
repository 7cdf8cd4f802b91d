use Rattle.std.proofs.Common.{◌≡◌, ℕ, ◌≤◌, ◌+◌, true, false, get_or, length}
use Rattle.plan_room.specs.Links.{AreFlagged}
use Rattle.plan_room.proofs.Linked.{IsSeen}
use Rattle.plan_room.proofs.links.fixed_positions.Given as goal

abbrev pub invariant-loop-place : goal.invariant-loop-place
invariant-loop-place l = record {
  low : l.place ≤ length l.sequence;
  sizes : length l.fixed.items ≡ length l.order;
  wide : length l.seen.items ≡ l.count + 1;
  flagged : AreFlagged l.order l.sequence (λ a. get_or l.first a 0) l.rising l.place (λ a. get_or l.fixed.items a false ≡ true);
  seen : (f : ℕ) → f ≤ l.count → IsSeen l.order l.sequence (λ a. get_or l.first a 0) l.rising l.place f (get_or l.seen.items f 0);
}

abbrev pub decreases-loop-place : goal.decreases-loop-place
decreases-loop-place l = l.place
