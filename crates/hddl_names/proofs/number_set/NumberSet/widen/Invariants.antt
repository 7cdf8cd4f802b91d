use Rattle.std.proofs.Common.{◌≡◌, ℕ, length, get_or}
use Rattle.hddl_names.proofs.number_set.NumberSet.widen.Given as goal

abbrev pub invariant-loop-k : goal.invariant-loop-k
invariant-loop-k l = (l.k ≡ length l.self-inside.words.items) × ((j : ℕ) → get_or l.self-inside.words.items j 0 ≡ get_or l.initial.self-inside.words.items j 0)
