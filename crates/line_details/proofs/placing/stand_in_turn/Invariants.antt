use Rattle.std.proofs.Common.{◌<◌, ◌≤◌, ℕ}
use Rattle.line_details.specs.Entries.{spans_of}
use Rattle.line_details.proofs.Seen.{PositionsBefore}
use Rattle.line_details.proofs.placing.stand_in_turn.Given as goal

abbrev pub invariant-loop-position : goal.invariant-loop-position
invariant-loop-position l = record {
  finished : PositionsBefore (λ a. (spans_of l.entry).finish a ≤ l.latest) l.position;
  in_turn : PositionsBefore (λ b. (a : ℕ) → a < b → (spans_of l.entry).finish a ≤ (spans_of l.entry).start b) l.position;
}
