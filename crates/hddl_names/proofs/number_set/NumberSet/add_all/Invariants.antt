use Rattle.std.proofs.Common.{◌≤◌, length}
use Rattle.hddl_names.proofs.NumberBits.{AddedUpTo}
use Rattle.hddl_names.proofs.number_set.NumberSet.add_all.Given as goal

abbrev pub invariant-loop-k : goal.invariant-loop-k
invariant-loop-k l = (l.k-end ≤ length l.self-inside.words.items) × AddedUpTo l.initial.self-inside.words.items l.other l.k l.self-inside.words.items
