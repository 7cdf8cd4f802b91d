use Rattle.std.proofs.Common.{◌≡◌, ◌≤◌, ℕ, true}
use Rattle.htn_model.specs.Problem.{is_before}
use Rattle.line_details.specs.Entries.{spans_of}
use Rattle.line_details.proofs.Seen.{PositionsBefore}
use Rattle.line_details.proofs.placing.are_ahead.Given as goal

abbrev pub invariant-loop-position : goal.invariant-loop-position
invariant-loop-position l = PositionsBefore (λ a. (b : ℕ) → is_before l.order a b ≡ true → (spans_of l.entry).finish a ≤ (spans_of l.entry).start b) l.position
