use Rattle.std.proofs.Common.{ap, ap₂, sym, ◌∙◌, subst}
use Rattle.htn_order.specs.Forms.{IsForm, order_of}
use Rattle.htn_model.specs.Problem.{order_eq}
use Rattle.htn_order.proofs.Chains.{chain_eq, chain_or_rows, rows_or_chain, same_eq}
use Rattle.htn_order.proofs.order.OrderPartialEq.eq.Goals as goal

pub returns-in-Chain-Chain : goal.returns-in-Chain-Chain
returns-in-Chain-Chain c =
    chain_eq c.in-Chain-Chain.size c.in-Chain-Chain.other_size
    ∙ ap₂ order_eq (ap order_of (sym c.in-Chain-Chain.is-0) ∙ c.self.view_is) (ap order_of (sym c.in-Chain-Chain.is-1) ∙ c.other.view_is)

pub returns-in-Rows-Rows : goal.returns-in-Rows-Rows
returns-in-Rows-Rows c =
    same_eq c.in-Rows-Rows.rows c.in-Rows-Rows.other_rows c.is_same.result c.is_same.ensures
    ∙ ap₂ order_eq (ap order_of (sym c.in-Rows-Rows.is-0) ∙ c.self.view_is) (ap order_of (sym c.in-Rows-Rows.is-1) ∙ c.other.view_is)

pub returns-in_default : goal.returns-in_default
returns-in_default c =
    chain_or_rows c.in_default.field-0-0 c.in_default.field-0-1 (subst IsForm c.in_default.is-1 c.other.invariant).2
    ∙ ap₂ order_eq (ap order_of (sym c.in_default.is-0) ∙ c.self.view_is) (ap order_of (sym c.in_default.is-1) ∙ c.other.view_is)

pub returns-in_default-2 : goal.returns-in_default-2
returns-in_default-2 c =
    rows_or_chain c.in_default.field-0-0 c.in_default.field-0-1 (subst IsForm c.in_default.is-0 c.self.invariant).2
    ∙ ap₂ order_eq (ap order_of (sym c.in_default.is-0) ∙ c.self.view_is) (ap order_of (sym c.in_default.is-1) ∙ c.other.view_is)
