use Rattle.std.proofs.Common.{◌≤◌, get_or}
use Rattle.plan_room.proofs.Started.{IsStartFrom}
use Rattle.plan_room.proofs.matching.start_of.Given as goal

abbrev pub invariant-loop-place : goal.invariant-loop-place
invariant-loop-place g l = record {
  so : IsStartFrom (g.C.Choices.seating l.choices) l.trial.finishes.items l.trial.depth l.position l.place l.start;
  high : get_or l.trial.highs.items l.sure 0 ≤ l.start;
  within : l.place ≤ l.trial.depth;
}

abbrev pub decreases-loop-place : goal.decreases-loop-place
decreases-loop-place g l = l.place
