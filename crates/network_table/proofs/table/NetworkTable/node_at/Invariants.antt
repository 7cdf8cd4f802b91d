use Rattle.std.proofs.Common.{◌≡◌, ◌<◌, get_or, length}
use Rattle.network_table.specs.Networks.{Knows, numbered_at}
use Rattle.network_table.proofs.table.NetworkTable.node_at.Given as goal

-- the node stands at what is left of its position
abbrev pub invariant-loop-link : goal.invariant-loop-link
invariant-loop-link l = record {
  known : Knows l.self l.at;
  placed : l.left < length (numbered_at l.self l.at).nodes;
  same : get_or (numbered_at l.self l.at).nodes l.left 0 ≡ get_or (numbered_at l.self l.number).nodes l.position 0;
}

abbrev pub decreases-loop-link : goal.decreases-loop-link
decreases-loop-link l = l.at
