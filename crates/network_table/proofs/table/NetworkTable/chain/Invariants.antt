use Rattle.std.proofs.Common.{◌≡◌, ◌++◌}
use Rattle.network_table.specs.Networks.{Knows, numbered_at}
use Rattle.network_table.specs.Entries.{IsChain}
use Rattle.network_table.proofs.table.NetworkTable.chain.Given as goal

-- the nodes so far, and those of the chain that is left
abbrev pub invariant-loop-link : goal.invariant-loop-link
invariant-loop-link l = record {
  known : Knows l.self l.at;
  chain : IsChain (numbered_at l.self l.at);
  nodes : l.nodes.items ++ (numbered_at l.self l.at).nodes ≡ (numbered_at l.self l.number).nodes;
}

abbrev pub decreases-loop-link : goal.decreases-loop-link
decreases-loop-link l = l.at
