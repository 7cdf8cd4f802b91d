use Rattle.std.proofs.Common.{◌-◌, length}
use Rattle.network_table.proofs.draft.starts_of.Given as goal

abbrev pub decreases-loop-starts : goal.decreases-loop-starts
decreases-loop-starts l = l.count - length l.starts.items
