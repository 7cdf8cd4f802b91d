use Rattle.std.proofs.Common.{◌≡◌, ℕ, ◌<◌, Some, slice_get}
use Rattle.hddl_names.specs.Intervals.{start_of}
use Rattle.hddl_names.proofs.intervals.stand_at_places.Given as goal

abbrev pub invariant-loop-number : goal.invariant-loop-number
invariant-loop-number l = (a : ℕ) → a < l.number → slice_get l.order (start_of l.intervals a) ≡ Some a
