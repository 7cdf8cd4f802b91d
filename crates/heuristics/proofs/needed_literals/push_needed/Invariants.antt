use Rattle.std.proofs.Common.{◌≡◌, ◌&&◌, List, ℕ}
use Rattle.std.specs.List.{flat_map, range_with_len}
use Rattle.htn_model.specs.Literal.{holds}
use Rattle.heuristics.specs.Needs.{needed_at}
use Rattle.heuristics.specs.Places.{AreGiven, ArePlaces}
use Rattle.heuristics.specs.Rows.{outlook_of}
use Rattle.network_table.specs.Networks.{children}
use Rattle.network_table.specs.Numbered.{network_of}
use Rattle.network_table.specs.declared.table.NetworkTable.{NetworkTable}
use Rattle.state_table.specs.Compiled.{all_hold}
use Rattle.state_table.specs.Table.{IsLater, state_of, Table}
use Rattle.heuristics.specs.StoredNeeds.{AreNodes}
use Rattle.heuristics.proofs.needed_literals.push_needed.Given as goal

-- what is needed of the nodes so far
abbrev pub invariant-loop-at : goal.invariant-loop-at
invariant-loop-at l =
    (networks : NetworkTable) (atoms later : Table) (words : List ℕ) → ArePlaces l.prospects.needs l.places (network_of (children networks) l.network) → AreGiven l.prospects.needs (network_of (children networks) l.network) l.given → AreNodes l.prospects atoms networks l.nodes
    → IsLater atoms later
    → all_hold words l.found
    ≡ (all_hold words l.initial.found && holds (state_of later words) (flat_map (needed_at (outlook_of l.prospects.needs) (network_of (children networks) l.network)) (range_with_len 0 l.at)))
