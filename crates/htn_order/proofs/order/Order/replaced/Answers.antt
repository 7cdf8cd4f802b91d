use Rattle.std.proofs.Common.{◌≡◌, ◌<◌, ◌-◌, ◌+◌, ap, ap₂, sym, ◌∙◌, subst, length, arith}
use Rattle.htn_model.specs.Machine as machine
use Rattle.htn_model.specs.Problem.{IsClosed}
use Rattle.htn_order.specs.Forms.{order_of}
use Rattle.htn_order.specs.Shapes as shapes
use Rattle.htn_order.proofs.Replaced.{chain_replaced, replaced_closed}
use Rattle.htn_order.proofs.order.Order.replaced.Goals as goal

pub returns-in-Chain-Chain : goal.returns-in-Chain-Chain
returns-in-Chain-Chain c =
    let n = c.in-Chain-Chain.field-0-0 in
    let m = c.in-Chain-Chain.field-0-1 in
    let outer : shapes.chain n ≡ c.args.self.now = ap order_of (sym c.in-Chain-Chain.is-0) ∙ c.self.view_is in
    let inside : shapes.chain m ≡ c.args.inner.now = ap order_of (sym c.in-Chain-Chain.is-1) ∙ c.inner.view_is in
    let low : c.args.at < length (shapes.chain n) = subst (λ order. c.args.at < length order) (sym outer) c.requires in
    let size : c.in-Some.size ≡ length c.args.self.now - 1 + length c.args.inner.now =
    (let total = c.in-Some.ensures in let first = c.size.ensures.value in let second = c.size-2.ensures.value in omega arith) in
    c.chain.ensures ∙ ap shapes.chain (size ∙ ap₂ (λ a b. length a - 1 + length b) (sym outer) (sym inside)) ∙ chain_replaced n c.args.at m low
    ∙ ap₂ (λ a b. machine.table (length a - 1 + length b) (machine.replaced_order a c.args.at (length b) b)) outer inside

pub from_rows-requires : goal.from_rows-requires
from_rows-requires c =
    subst IsClosed (sym c.in_ok-rows.ensures)
    (replaced_closed c.in-Some.size c.args.self.now c.args.at (length c.args.inner.now) c.args.inner.now c.size.ensures.closed c.size-2.ensures.closed)
