use Rattle.std.proofs.Common.{◌≡◌, ap, sym, ◌∙◌, subst, length}
use Rattle.htn_model.specs.Problem.{IsClosed, IsSquare}
use Rattle.htn_order.specs.Forms.{order_of}
use Rattle.htn_order.specs.Shapes.{chain}
use Rattle.htn_order.proofs.Chains.{chain_closed, chain_size, chain_square_of}
use Rattle.htn_order.proofs.order.Order.size.Goals as goal

pub returns-in-Chain-clause-value : goal.returns-in-Chain-clause-value
returns-in-Chain-clause-value c = sym (chain_size c.in-Chain.size) ∙ ap (λ form. length (order_of form)) (sym c.in-Chain.is) ∙ ap length c.self.view_is

pub returns-in-Chain-clause-square : goal.returns-in-Chain-clause-square
returns-in-Chain-clause-square c =
    let is : chain c.in-Chain.size ≡ c.args.self.now = ap order_of (sym c.in-Chain.is) ∙ c.self.view_is in
    subst (λ order. IsSquare (length order) order) is (chain_square_of c.in-Chain.size)

pub returns-in-Chain-clause-closed : goal.returns-in-Chain-clause-closed
returns-in-Chain-clause-closed c =
    let is : chain c.in-Chain.size ≡ c.args.self.now = ap order_of (sym c.in-Chain.is) ∙ c.self.view_is in
    subst IsClosed is (chain_closed c.in-Chain.size)
