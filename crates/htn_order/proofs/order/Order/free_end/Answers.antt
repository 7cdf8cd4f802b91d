use Rattle.std.proofs.Common.{◌≡◌, ap, sym, subst, ◌∙◌}
use Rattle.htn_order.specs.Forms.{order_of}
use Rattle.htn_order.specs.Free.{HasNoneFree}
use Rattle.htn_order.specs.Shapes.{chain}
use Rattle.htn_order.proofs.Free.{chain_none_free_from}
use Rattle.htn_order.proofs.order.Order.free_end.Goals as goal

pub returns-in-Chain-clause-none : goal.returns-in-Chain-clause-none
returns-in-Chain-clause-none c =
    let is : chain c.in-Chain.size ≡ c.args.self.now = ap order_of (sym c.in-Chain.is) ∙ c.self.view_is in
    subst (λ order. HasNoneFree order c.min.result) is (chain_none_free_from c.in-Chain.size c.min.result c.min.ensures)
