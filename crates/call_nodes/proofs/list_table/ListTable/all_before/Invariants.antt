use Rattle.std.proofs.Common.{◌≡◌, ◌<◌, ◌++◌, length, vec_len}
use Rattle.call_table.specs.Lists.{list_at}
use Rattle.state_table.specs.Numberings.{IsExtension}
use Rattle.call_nodes.proofs.list_table.ListTable.all_before.Given as goal

-- the nodes that are left before the list so far are the nodes before the list behind them
abbrev pub invariant-loop-node : goal.invariant-loop-node
invariant-loop-node l = record {
  list : l.left.items ++ list_at l.self l.number ≡ l.initial.left.items ++ list_at l.initial.self l.initial.number;
  known : l.number < length l.self.lists;
  lists : IsExtension l.initial.self.lists l.self.lists;
  counts : l.self.counts ≡ l.initial.self.counts;
}

abbrev pub decreases-loop-node : goal.decreases-loop-node
decreases-loop-node l = vec_len l.left
