use Rattle.std.proofs.Common.{◌≡◌, ◌++◌}
use Rattle.call_table.specs.Lists.{list_at}
use Rattle.call_nodes.proofs.list_table.ListTable.nodes_of.Given as goal

-- the nodes so far and those of the list that is left are all nodes
abbrev pub invariant-loop-first : goal.invariant-loop-first
invariant-loop-first l = l.nodes.items ++ list_at l.self l.at ≡ list_at l.self l.number

abbrev pub decreases-loop-first : goal.decreases-loop-first
decreases-loop-first l = l.at
