use Rattle.std.proofs.Common.{◌≡◌, ◌&&◌, List, ℕ, filter, not, take}
use Rattle.std.specs.List.{list_any}
use Rattle.htn_model.specs.Literal.{Literal, holds}
use Rattle.htn_model.specs.Problem.{Network}
use Rattle.heuristics.specs.Places.{AreGiven}
use Rattle.heuristics.specs.Rows.{outlook_of}
use Rattle.heuristics.specs.declared.needs.Needs.{Needs}
use Rattle.state_table.specs.Compiled.{all_hold}
use Rattle.state_table.specs.Table.{IsLater, state_of, Table}
use Rattle.heuristics.specs.StoredNeeds.{AreWants}
use Rattle.heuristics.proofs.needed_literals.push_needed_goal.Given as goal

-- what is needed of the goal's literals so far
abbrev pub invariant-loop-want : goal.invariant-loop-want
invariant-loop-want l =
    (needs : Needs) (n : Network) (literals : List Literal) (atoms later : Table) (words : List ℕ) → AreGiven needs n l.given → AreWants needs atoms l.goals literals → IsLater atoms later
    → all_hold words l.found
    ≡ (all_hold words l.initial.found && holds (state_of later words) (filter (λ x. not (list_any (λ y. (outlook_of needs).gives y x) n.children)) (take l.want-index literals)))
