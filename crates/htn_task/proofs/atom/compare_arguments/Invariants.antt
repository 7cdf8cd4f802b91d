-- What the parts from a place on answer, the lists answer.
use Rattle.std.proofs.Common.{◌≡◌, ◌≤◌, min, length, drop}
use Rattle.std.specs.Cmp.Lexicographic.{slice_cmp}
use Rattle.std.specs.Ordering.{nat_cmp}
use Rattle.htn_task.proofs.atom.compare_arguments.Given as goal

abbrev pub invariant-loop-i : goal.invariant-loop-i
invariant-loop-i l = (l.both ≡ min (length l.a) (length l.b)) × (l.i ≤ l.both) × (slice_cmp nat_cmp (drop l.i l.a) (drop l.i l.b) ≡ slice_cmp nat_cmp l.a l.b)
