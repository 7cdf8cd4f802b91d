use Rattle.std.proofs.Common.{ap, sym, ◌∙◌, inr}
use Rattle.std.proofs.lemmas.Bool.{le-ltb}
use Rattle.htn_model.specs.Problem as problem
use Rattle.htn_order.specs.Forms.{order_of}
use Rattle.htn_order.proofs.Chains.{chain_read, not_before_chain}
use Rattle.htn_order.proofs.order.Order.is_before.Goals as goal

pub returns-then-a-b : goal.returns-then-a-b
returns-then-a-b c =
    sym (chain_read c.in-Chain.size c.args.a c.args.b c.if-a-b.true)
    ∙ ap (λ form. problem.is_before (order_of form) c.args.a c.args.b) (sym c.in-Chain.is) ∙ ap (λ order. problem.is_before order c.args.a c.args.b) c.self.view_is

pub returns-else-a-b : goal.returns-else-a-b
returns-else-a-b c =
    le-ltb c.args.a c.args.b c.if-a-b.false ∙ sym (not_before_chain c.in-Chain.size c.args.a c.args.b (inr c.if-a-b.false))
    ∙ ap (λ form. problem.is_before (order_of form) c.args.a c.args.b) (sym c.in-Chain.is) ∙ ap (λ order. problem.is_before order c.args.a c.args.b) c.self.view_is
