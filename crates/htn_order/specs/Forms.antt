-- The forms in which an order is stored.
use Rattle.std.specs.Prelude.{◌≡◌, false, length}
use Rattle.htn_model.specs.Problem.{Order, IsClosed, IsSquare, order_eq}
use Rattle.htn_order.specs.Shapes.{chain}
use Rattle.htn_order.specs.declared.order.Form.{Form}
use Rattle.htn_order.specs.declared.order.Form.TheVariants.{Chain, Rows}

-- the order that a form stands for: total in the sequence of the list, or as the rows say
abbrev pub order_of : Form → Order
order_of (Chain size) = chain size
order_of (Rows rows) = rows

-- the form with rows is only for a closed order that is no chain
abbrev pub IsForm : Form → Type 0
IsForm (Chain size) = Unit {0}
IsForm (Rows rows) = IsSquare (length rows) rows × IsClosed rows × (order_eq rows (chain (length rows)) ≡ false)
