use Rattle.std.proofs.Common.{◌≡◌, ◌-◌, length, slice_get}
use Rattle.htn_model.specs.Choice.{is_free, nth_free}
use Rattle.htn_model.specs.Problem.{is_before}
use Rattle.htn_order.proofs.Free.{rest}
use Rattle.htn_order.proofs.order.Order.nth_free.Given as goal

abbrev pub invariant-loop-position : goal.invariant-loop-position
invariant-loop-position l =
    let test = is_free (length l.self) (is_before l.self) in
    nth_free (length l.self) (is_before l.self) l.number ≡ slice_get (rest test l.position (l.position-end - l.position)) l.left
