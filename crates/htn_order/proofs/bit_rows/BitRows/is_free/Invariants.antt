use Rattle.std.proofs.Common.{◌≡◌, []}
use Rattle.htn_model.specs.Choice.{passing}
use Rattle.htn_model.specs.Problem.{is_before}
use Rattle.htn_order.proofs.bit_rows.BitRows.is_free.Given as goal

abbrev pub invariant-loop-a : goal.invariant-loop-a
invariant-loop-a l = passing (λ a. is_before l.self a l.position) l.a ≡ []
