use Rattle.htn_order.proofs.Chains.{no_chain_eq}
use Rattle.htn_order.proofs.order.Order.from_rows.Goals as goal

pub invariant_of-result : goal.invariant_of-result
invariant_of-result c = (c.size-size.ensures.square, c.requires, no_chain_eq c.args.rows c.is_chain.result c.if-is_chain.false c.is_chain.ensures.1)
