use Rattle.std.proofs.Common.{◌≡◌, length, map, take}
use Rattle.htn_model.specs.Choice.{child_of}
use Rattle.heuristics.specs.Places.{row_at}
use Rattle.heuristics.specs.Rows.{blocks, row_of}
use Rattle.heuristics.specs.declared.places.Place.{Place}
use Rattle.network_table.specs.Networks.{children}
use Rattle.network_table.specs.declared.table.NetworkTable.{NetworkTable}
use Rattle.state_table.specs.Table.{Table}
use Rattle.heuristics.specs.StoredNeeds.{AreNodes}
use Rattle.heuristics.specs.declared.prospects.Prospects.{Prospects}
use Rattle.heuristics.proofs.node.places_of.Given as goal

-- the places of the nodes so far
abbrev pub invariant-loop-id : goal.invariant-loop-id
invariant-loop-id l = record {
  count : length l.places.items ≡ l.id-index;
  rows : (p : Prospects) (atoms : Table) (networks : NetworkTable) → AreNodes p atoms networks l.nodes
      → map (λ (q : Place). row_at p.needs q.spot) l.places.items ≡ map (row_of p.needs) (map (child_of (children networks)) (take l.id-index l.ids));
  blocked : (p : Prospects) (atoms : Table) (networks : NetworkTable) → AreNodes p atoms networks l.nodes
      → map (λ (q : Place). q.is_blocked) l.places.items ≡ map (blocks p.needs) (map (child_of (children networks)) (take l.id-index l.ids));
}
