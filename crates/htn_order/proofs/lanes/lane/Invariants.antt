use Rattle.std.proofs.Common.{◌≡◌, ◌≤◌, ◌+◌, ◌*◌, ◌^◌, length}
use Rattle.htn_order.specs.Counts.{lane}
use Rattle.htn_order.proofs.lanes.lane.Given as goal

abbrev pub invariant-loop-place : goal.invariant-loop-place
invariant-loop-place l = record {
  low : l.place ≤ length l.words;
  worth : l.number * 2 ^ l.place + lane l.words l.j l.place ≡ lane l.words l.j (length l.words);
}

abbrev pub decreases-loop-place : goal.decreases-loop-place
decreases-loop-place l = l.place
