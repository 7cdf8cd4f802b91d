use Rattle.std.proofs.Common.{◌≡◌, ◌<◌, ℕ, false, get_or, length, nat_eq, take}
use Rattle.std.specs.List.{list_any}
use Rattle.hddl_names.proofs.members.flags_of.Given as goal

abbrev pub invariant-loop-number : goal.invariant-loop-number
invariant-loop-number l = (length l.flags.items ≡ l.count) × ((k : ℕ) → k < l.count → get_or l.flags.items k false ≡ list_any (nat_eq k) (take l.number-index l.numbers))
