use Rattle.std.proofs.Common.{◌≡◌, ◌∙◌, length, true, ap, sym}
use Rattle.htn_model.specs.Equality.{order_eq-decides}
use Rattle.htn_model.specs.Problem.{order_eq}
use Rattle.htn_order.specs.Shapes.{chain}
use Rattle.call_nodes.proofs.call_nodes.is_ordered.Goals as goal

pub returns : goal.returns
returns c = λ passes.
    (let n = c.args.instance.now.network in
    let same : order_eq c.order.result.now c.chain.result ≡ true = sym c.eq-2.ensures ∙ passes in
    let order : n.order ≡ chain (length n.children) =
    sym c.order.ensures ∙ (order_eq-decides c.order.result.now c.chain.result).0 same ∙ c.chain.ensures ∙ ap chain (c.len.ensures ∙ ap length c.children.ensures) in
    λ i. record { children = n.children; order = order i })
