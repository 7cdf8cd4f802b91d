use Rattle.htn_calls.proofs.Ordered.{ordered_split}
use Rattle.htn_calls.proofs.lone_blocks.ordered_networks_split.Goals as goal

pub returns : goal.returns
returns c = ordered_split
