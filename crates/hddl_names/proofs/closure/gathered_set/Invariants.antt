use Rattle.std.proofs.Common.{◌≡◌, ◌⊎◌, ℕ, Some, true}
use Rattle.std.specs.List.{Contains}
use Rattle.hddl_names.specs.Closures.{set_of}
use Rattle.hddl_names.specs.NumberSets.{has}
use Rattle.hddl_names.proofs.closure.gathered_set.Given as goal

abbrev pub invariant-loop-child : goal.invariant-loop-child
invariant-loop-child l = (i : ℕ) → has l.set i ≡ true → (l.fn.own ≡ Some i) ⊎ ((child : ℕ) × Contains l.row child × (has (set_of l.sets child) i ≡ true))
