use Rattle.std.proofs.Common.{◌≡◌, [], replicate}
use Rattle.hddl_names.proofs.closure.empty_sets.Given as goal

abbrev pub invariant-loop-i : goal.invariant-loop-i
invariant-loop-i l = l.sets.items ≡ replicate l.i []
