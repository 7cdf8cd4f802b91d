use Rattle.std.proofs.Common.{◌≤◌}
use Rattle.line_details.specs.Entries.{spans_of}
use Rattle.line_details.proofs.Seen.{PositionsBefore}
use Rattle.line_details.proofs.placing.are_within.Given as goal

abbrev pub invariant-loop-place : goal.invariant-loop-place
invariant-loop-place l = PositionsBefore (λ a. (l.entry.from ≤ (spans_of l.entry).start a) × ((spans_of l.entry).start a ≤ (spans_of l.entry).finish a) × ((spans_of l.entry).finish a ≤ l.entry.to)) l.place
