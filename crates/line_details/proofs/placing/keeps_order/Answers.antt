use Rattle.std.proofs.Common.{◌≡◌, ◌∙◌, true, ap, subst, sym}
use Rattle.htn_model.specs.Equality.{order_eq-decides}
use Rattle.htn_model.specs.Problem.{is_before, order_eq}
use Rattle.htn_order.specs.Shapes.{chain}
use Rattle.htn_order.proofs.Chains.{chain_before}
use Rattle.line_details.proofs.placing.keeps_order.Goals as goal

pub returns-then-eq : goal.returns-then-eq
returns-then-eq c = λ yes a b before.
    let order = c.args.order.now in
    let n = c.size-size.result in
    let is = c.eq-2.ensures ∙ ap (order_eq order) c.chain.ensures in
    let same = (order_eq-decides order (chain n)).0 (sym is ∙ c.if-eq.true) in
    let w = chain_before n a b (subst (λ o. is_before o a b ≡ true) same before) in
    c.stand_in_turn.ensures yes a b w.0 w.1
