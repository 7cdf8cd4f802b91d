use Rattle.std.proofs.Common.{◌≡◌, length}
use Rattle.htn_order.specs.Closing.{IsClosing}
use Rattle.htn_order.proofs.Joining.{HasPairs}
use Rattle.htn_order.proofs.closure.close.Given as goal

abbrev pub invariant-loop-k : goal.invariant-loop-k
invariant-loop-k l = (length l.rows ≡ l.size) × IsClosing l.pairs l.rows l.entered.items

abbrev pub invariant-loop-index : goal.invariant-loop-index
invariant-loop-index l = (length l.rows ≡ l.size) × IsClosing l.pairs l.rows l.entered.items × HasPairs l.pairs l.index l.rows
