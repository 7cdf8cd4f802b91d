use Rattle.std.proofs.Common.{◌≡◌, ◌++◌, vec_len}
use Rattle.call_table.specs.Lists.{list_at}
use Rattle.call_nodes.proofs.list_table.ListTable.appended.Given as goal

-- the nodes that are left before the list so far are the nodes before the list behind them
abbrev pub invariant-loop-node : goal.invariant-loop-node
invariant-loop-node l = l.left.items ++ list_at l.self l.number ≡ l.initial.left.items ++ list_at l.self l.initial.number

abbrev pub decreases-loop-node : goal.decreases-loop-node
decreases-loop-node l = vec_len l.left
