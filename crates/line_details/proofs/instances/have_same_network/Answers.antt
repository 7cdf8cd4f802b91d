use Rattle.std.proofs.Common.{◌∙◌, ap₂, sym}
use Rattle.std.specs.Cmp.Lexicographic.{pointwise_decides}
use Rattle.htn_model.specs.Equality.{child_eq-decides, order_eq-decides}
use Rattle.line_details.proofs.instances.have_same_network.Goals as goal

pub returns-then-eq : goal.returns-then-eq
returns-then-eq c = λ yes.
    let same = (pointwise_decides child_eq-decides c.children.result.now c.children-2.result.now).0 (sym c.eq.ensures ∙ c.if-eq.true) in
    let orders = (order_eq-decides c.order.result.now c.order-then-eq.result.now).0 (sym c.eq-then-eq.ensures ∙ yes) in
    ap₂ (λ cs o. record { children = cs; order = o }) (sym c.children.ensures ∙ same ∙ c.children-2.ensures) (sym c.order.ensures ∙ orders ∙ c.order-then-eq.ensures)
