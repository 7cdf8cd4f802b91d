use Rattle.std.proofs.Common.{◌≡◌, ◌<◌, ◌≤◌, ℕ, false, length}
use Rattle.htn_model.specs.Choice.{is_free}
use Rattle.htn_model.specs.Problem.{is_before}
use Rattle.htn_order.proofs.order.Order.next_free.Given as goal

abbrev pub invariant-loop-position : goal.invariant-loop-position
invariant-loop-position l = (i : ℕ) → l.from ≤ i → i < l.position → is_free (length l.self) (is_before l.self) i ≡ false
