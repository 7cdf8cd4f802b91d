use Rattle.std.proofs.Common.{◌≡◌, length}
use Rattle.htn_model.specs.Choice.{is_free, passing}
use Rattle.htn_model.specs.Problem.{is_before}
use Rattle.htn_order.proofs.order.Order.free_positions.Given as goal

abbrev pub invariant-loop-position : goal.invariant-loop-position
invariant-loop-position l = l.free.items ≡ passing (is_free (length l.self) (is_before l.self)) l.position
