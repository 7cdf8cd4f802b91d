use Rattle.std.proofs.Common.{◌≡◌, ◌&&◌, List, ℕ, filter, take}
use Rattle.htn_model.specs.Choice.{child_of}
use Rattle.htn_model.specs.Literal.{holds}
use Rattle.htn_model.specs.Problem.{Network}
use Rattle.heuristics.specs.Needs.{is_ungiven}
use Rattle.heuristics.specs.Places.{AreGiven, ArePlaces}
use Rattle.heuristics.specs.Rows.{outlook_of, row_of, wants_by}
use Rattle.state_table.specs.Compiled.{all_hold}
use Rattle.state_table.specs.Table.{IsLater, state_of, Table}
use Rattle.heuristics.specs.StoredNeeds.{AreWants}
use Rattle.heuristics.proofs.needed_literals.push_needed_at.Given as goal

-- what is needed of the wanted literals so far
abbrev pub invariant-loop-want : goal.invariant-loop-want
invariant-loop-want l =
    (n : Network) (atoms later : Table) (words : List ℕ) → ArePlaces l.needs l.places n → AreGiven l.needs n l.given → l.order ≡ n.order → AreWants l.needs atoms l.wants (wants_by (row_of l.needs (child_of n.children l.at)))
    → IsLater atoms later
    → all_hold words l.found
    ≡ (all_hold words l.initial.found
    && holds (state_of later words) (filter (is_ungiven (outlook_of l.needs) n l.at) (take l.want-index (wants_by (row_of l.needs (child_of n.children l.at))))))
