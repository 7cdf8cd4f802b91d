use Rattle.std.proofs.Common.{ap, length, arith}
use Rattle.htn_order.proofs.Chains.{chain_size}
use Rattle.network_table.proofs.table.NetworkTable.chain.Goals as goal

pub new-requires : goal.new-requires
new-requires c = omega (arith, ap length c.chain-order.ensures, chain_size c.len.result, c.len.ensures, c.loop-link.nodes.ok)
