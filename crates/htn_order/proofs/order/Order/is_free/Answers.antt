use Rattle.std.proofs.Common.{◌≡◌, ap, sym, ◌∙◌, length}
use Rattle.std.proofs.lemmas.Bool.{eq-eqb}
use Rattle.htn_model.specs.Choice as choice
use Rattle.htn_model.specs.Problem as problem
use Rattle.htn_order.specs.Forms.{order_of}
use Rattle.htn_order.specs.Shapes.{chain}
use Rattle.htn_order.proofs.Free.{chain_free_first, chain_free_later}
use Rattle.htn_order.proofs.order.Order.is_free.Goals as goal

pub returns-then-position-eq0 : goal.returns-then-position-eq0
returns-then-position-eq0 c =
    let is : chain c.in-Chain.size ≡ c.args.self.now = ap order_of (sym c.in-Chain.is) ∙ c.self.view_is in
    eq-eqb c.args.position 0 c.if-position-eq0.true ∙ chain_free_first c.in-Chain.size c.args.position c.if-position-eq0.true
    ∙ ap (λ order. choice.is_free (length order) (problem.is_before order) c.args.position) is

pub returns-else-position-eq0 : goal.returns-else-position-eq0
returns-else-position-eq0 c =
    let is : chain c.in-Chain.size ≡ c.args.self.now = ap order_of (sym c.in-Chain.is) ∙ c.self.view_is in
    chain_free_later c.in-Chain.size c.args.position c.if-position-eq0.false
    ∙ ap (λ order. choice.is_free (length order) (problem.is_before order) c.args.position) is
