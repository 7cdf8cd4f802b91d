use Rattle.std.proofs.Common.{◌≡◌, ◌<◌, ℕ, Some, true, slice_get}
use Rattle.hddl_names.specs.Closures.{set_of}
use Rattle.hddl_names.specs.NumberSets.{has}
use Rattle.hddl_names.proofs.closure.have_own.Given as goal

abbrev pub invariant-loop-position : goal.invariant-loop-position
invariant-loop-position l = (i j : ℕ) → i < l.position → slice_get l.junctions i ≡ Some j → has (set_of l.sets j) i ≡ true
