use Rattle.std.proofs.Common.{◌≡◌, ℕ, eqb}
use Rattle.std.specs.Int.{bit_at}
use Rattle.htn_model.specs.Choice.{is_empty, passing}
use Rattle.htn_model.specs.Problem.{is_before}
use Rattle.htn_order.proofs.bit_rows.BitRows.entered.Given as goal

abbrev pub invariant-loop-a : goal.invariant-loop-a
invariant-loop-a l = (b : ℕ) → is_empty (passing (λ k. is_before l.self k b) l.a) ≡ eqb (bit_at l.word b) 0
