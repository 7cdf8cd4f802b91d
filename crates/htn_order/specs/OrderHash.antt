-- How orders are hashed.
use Rattle.std.specs.Prelude.{cond, length}
use Rattle.std.specs.Hash as fed
use Rattle.std.specs.Hash.{HashWrites, Alike, same_Alike}
use Rattle.htn_model.specs.Problem.{Order, order_eq}
use Rattle.htn_model.specs.Equality.{order_eq-decides}
use Rattle.htn_order.specs.Shapes.{chain}
use Rattle.htn_order.specs.BitRows.{rows_hash}

-- what an order feeds a hasher: a chain its size alone
abbrev pub order_hash : Order → HashWrites
order_hash order = cond (order_eq order (chain (length order))) (fed.usize (length order)) (rows_hash order)

-- equal orders feed a hasher the same
pub order_alike : Alike order_eq order_hash
order_alike = same_Alike order_hash order_eq-decides
