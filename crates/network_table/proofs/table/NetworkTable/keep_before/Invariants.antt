use Rattle.std.proofs.Common.{◌≤◌, drop, length}
use Rattle.network_table.specs.Networks.{IsMore, IsNumberOf, IsWhole, numbered_at}
use Rattle.network_table.specs.Entries.{chain_before}
use Rattle.network_table.specs.Expansions.{IsSound, Live}
use Rattle.network_table.proofs.table.NetworkTable.keep_before.Given as goal

-- the last nodes stand before the rest
abbrev pub invariant-loop-at : goal.invariant-loop-at
invariant-loop-at l = record {
  bound : l.at ≤ length l.nodes;
  whole : IsWhole l.self;
  more : IsMore l.initial.self l.self;
  number : IsNumberOf l.self l.number (chain_before (drop l.at l.nodes) (numbered_at l.initial.self l.rest));
  sound : (live : Live) → IsSound live l.initial.self → IsSound live l.self;
}
