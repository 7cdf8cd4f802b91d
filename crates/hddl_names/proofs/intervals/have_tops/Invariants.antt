use Rattle.std.proofs.Common.{ℕ, ◌<◌, [], get_or}
use Rattle.hddl_names.specs.Intervals.{HasTop}
use Rattle.hddl_names.proofs.intervals.have_tops.Given as goal

abbrev pub invariant-loop-number : goal.invariant-loop-number
invariant-loop-number l = (a : ℕ) → a < l.number → HasTop l.intervals l.tops (get_or l.parents a []) a
