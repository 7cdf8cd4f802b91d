use Rattle.std.proofs.Common.{ap, sym, ◌∙◌, fold}
use Rattle.htn_order.specs.Forms.{order_of}
use Rattle.htn_order.specs.OrderHash.{order_hash}
use Rattle.htn_order.proofs.Chains.{chain_hash}
use Rattle.htn_order.proofs.order.OrderHash.hash.Goals as goal

pub returns-in-Chain : goal.returns-in-Chain
returns-in-Chain g c =
    c.hash.ensures ∙ ap (fold g.H.Hasher.write c.args.state.now) (sym (chain_hash c.in-Chain.size) ∙ ap (λ form. order_hash (order_of form)) (sym c.in-Chain.is) ∙ ap order_hash c.self.view_is)
