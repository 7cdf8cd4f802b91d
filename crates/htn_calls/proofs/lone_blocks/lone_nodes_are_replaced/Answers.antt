use Rattle.htn_calls.proofs.Ordered.{lone_replaced}
use Rattle.htn_calls.proofs.lone_blocks.lone_nodes_are_replaced.Goals as goal

pub returns : goal.returns
returns c = lone_replaced
