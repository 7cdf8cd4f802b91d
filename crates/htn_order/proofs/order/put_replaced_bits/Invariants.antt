use Rattle.std.proofs.Common.{length}
use Rattle.htn_model.specs.Machine.{replaced_order}
use Rattle.htn_model.specs.Problem.{IsSquare}
use Rattle.htn_order.specs.Shapes.{IsRowAdded}
use Rattle.htn_order.proofs.order.put_replaced_bits.Given as goal

abbrev pub invariant-loop-b : goal.invariant-loop-b
invariant-loop-b l =
    IsSquare (length l.initial.rows) l.rows × IsRowAdded (replaced_order l.order l.at (length l.inner) l.inner) l.a l.b l.initial.rows l.rows
