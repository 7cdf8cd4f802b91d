use Rattle.std.proofs.Common.{sym, subst}
use Rattle.htn_model.specs.Problem.{IsClosed}
use Rattle.htn_order.proofs.Chains.{unordered_closed}
use Rattle.htn_order.proofs.order.Order.unordered.Goals as goal

pub from_rows-requires : goal.from_rows-requires
from_rows-requires c = subst IsClosed (sym c.in_ok-rows.ensures) (unordered_closed c.args.size)
