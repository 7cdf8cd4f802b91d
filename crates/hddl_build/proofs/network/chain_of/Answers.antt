use Rattle.htn_order.proofs.Chains.{chain_square}
use Rattle.hddl_build.proofs.network.chain_of.Goals as goal

pub returns-clause-square : goal.returns-clause-square
returns-clause-square c = rw c.in-Ok.ensures.chain (chain_square c.args.size)
