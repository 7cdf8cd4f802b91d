use Rattle.std.proofs.Common.{◌≡◌, ◌<◌, get_or, length, true, ℕ}
use Rattle.htn_ground.specs.Shown.{is_shown}
use Rattle.htn_ground.proofs.shown.shown_parameters.Given as goal

abbrev pub invariant-loop-place : goal.invariant-loop-place
invariant-loop-place l = (length l.shown.items ≡ l.place) × ((k : ℕ) → k < l.place → get_or l.shown.items k true ≡ is_shown l.precondition l.network.subtasks k)
