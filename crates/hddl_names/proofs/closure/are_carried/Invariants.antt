use Rattle.std.proofs.Common.{◌<◌, ℕ, [], get_or}
use Rattle.std.specs.List.{Contains}
use Rattle.hddl_names.specs.Closures.{set_of, IsWithin}
use Rattle.hddl_names.proofs.closure.are_carried.Given as goal

abbrev pub invariant-loop-number : goal.invariant-loop-number
invariant-loop-number l = (number child : ℕ) → number < l.number → Contains (get_or l.children number []) child → IsWithin (set_of l.sets child) (set_of l.sets number)
