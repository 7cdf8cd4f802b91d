use Rattle.std.proofs.Common.{◌≡◌, false, map, take}
use Rattle.std.specs.List.{list_any}
use Rattle.htn_model.specs.Choice.{child_of}
use Rattle.network_table.specs.Networks.{children}
use Rattle.network_table.specs.declared.table.NetworkTable.{NetworkTable}
use Rattle.state_table.specs.Table.{Table}
use Rattle.heuristics.specs.StoredNeeds.{AreNodes}
use Rattle.heuristics.specs.Prospects.{is_lost}
use Rattle.heuristics.specs.declared.prospects.Prospects.{Prospects}
use Rattle.heuristics.proofs.node.has_lost.Given as goal

-- none of the nodes so far is one that never ends
abbrev pub invariant-loop-id : goal.invariant-loop-id
invariant-loop-id l =
    (p : Prospects) (atoms : Table) (networks : NetworkTable) → AreNodes p atoms networks l.nodes → list_any (is_lost p) (map (child_of (children networks)) (take l.id-index l.ids)) ≡ false
