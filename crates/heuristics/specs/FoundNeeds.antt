-- The needs that workers find of networks.
use Rattle.std.specs.Prelude.{◌≡◌, ◌<◌, false, length, All, IfOk, Result}
use Rattle.std.specs.declared.alloc.AllocError.{AllocError}
use Rattle.std.specs.declared.alloc.Global.{Global}
use Rattle.std.specs.declared.vec.Vec.{Vec}
use Rattle.network_table.specs.Networks.{network_at}
use Rattle.network_table.specs.declared.table.NetworkTable.{NetworkTable}
use Rattle.state_table.specs.Table.{Table}
use Rattle.heuristics.specs.StoredNeeds.{AreNodes, AreWants, IsKept}
use Rattle.heuristics.specs.ListedNeeds.{chain_at}
use Rattle.heuristics.specs.Prospects.{outlook_by}
use Rattle.heuristics.specs.declared.keep_up_all.Found.{Found}
use Rattle.heuristics.specs.declared.prospects.Prospects.{Prospects}
use Rattle.heuristics.specs.declared.needs_table.NeedsTable.{NeedsTable}

-- the needs that were found are right for the network of this number, which is no chain, provided that all nodes and
-- the goal are compiled
pub record IsFound (p : Prospects) (t : NeedsTable) (networks : NetworkTable) (found : Found) : Type 0 where
  pub known : found.number < length networks.networks
  pub other : chain_at networks found.number ≡ false
  pub right : (atoms : Table) → AreNodes p atoms networks t.nodes.items → AreWants p.needs atoms t.goals.items t.goal
      → IsKept (outlook_by p) t.goal atoms (network_at networks found.number) found.needed

-- all needs that a worker found are right, unless memory was refused
abbrev pub HoldsFound : Prospects → NeedsTable → NetworkTable → Result (Vec Found Global) AllocError → Type 0
HoldsFound p t networks r = IfOk r (λ v. All (IsFound p t networks) v.items)
