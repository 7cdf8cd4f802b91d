use Rattle.std.proofs.Common.{◌≡◌, ◌≤◌, true}
use Rattle.htn_model.specs.Problem.{is_before}
use Rattle.line_details.specs.Entries.{spans_of}
use Rattle.line_details.proofs.Seen.{PositionsBefore}
use Rattle.line_details.proofs.placing.is_ahead.Given as goal

abbrev pub invariant-loop-later : goal.invariant-loop-later
invariant-loop-later l = PositionsBefore (λ b. is_before l.order l.position b ≡ true → l.finish ≤ (spans_of l.entry).start b) l.later
