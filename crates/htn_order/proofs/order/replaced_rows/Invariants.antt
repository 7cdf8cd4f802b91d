use Rattle.std.proofs.Common.{length}
use Rattle.htn_model.specs.Machine.{replaced_order}
use Rattle.htn_order.proofs.TableRows.{HasRows}
use Rattle.htn_order.proofs.order.replaced_rows.Given as goal

abbrev pub invariant-loop-a : goal.invariant-loop-a
invariant-loop-a l = HasRows (replaced_order l.order l.at (length l.inner) l.inner) l.size l.a l.rows
