use Rattle.std.proofs.Common.{◌≡◌, ℕ, ◌<◌, false, nat_eq, length, get_or}
use Rattle.std.specs.List.{list_any}
use Rattle.hddl_names.proofs.hierarchy.share.Given as goal

abbrev pub invariant-loop-x : goal.invariant-loop-x
invariant-loop-x l = (j : ℕ) → j < l.x-index → j < length l.these.keys → list_any (nat_eq (get_or l.these.keys j 0)) l.those.keys ≡ false
