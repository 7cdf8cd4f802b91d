use Rattle.std.proofs.Common.{◌<◌, ℕ, get_or}
use Rattle.hddl_names.specs.Closures.{set_of, IsWithin}
use Rattle.hddl_names.proofs.closure.has_all.Given as goal

abbrev pub invariant-loop-child : goal.invariant-loop-child
invariant-loop-child l = (k : ℕ) → k < l.child-index → IsWithin (set_of l.sets (get_or l.row k 0)) (set_of l.sets l.number)
