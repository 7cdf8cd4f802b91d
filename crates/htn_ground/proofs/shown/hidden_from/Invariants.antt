use Rattle.std.proofs.Common.{◌≤◌, length}
use Rattle.htn_ground.specs.Shown.{AreHiddenFrom}
use Rattle.htn_ground.proofs.shown.hidden_from.Given as goal

abbrev pub invariant-loop-place : goal.invariant-loop-place
invariant-loop-place l = (l.place ≤ length l.shown) × AreHiddenFrom l.shown l.place

abbrev pub decreases-loop-place : goal.decreases-loop-place
decreases-loop-place l = l.place
