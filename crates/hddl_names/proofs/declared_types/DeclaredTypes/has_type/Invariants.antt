use Rattle.std.proofs.Common.{ℕ, ◌<◌, [], get_or}
use Rattle.hddl_names.specs.Reach.{Reaches}
use Rattle.hddl_names.specs.TypeNumbers.{numbered_pairs}
use Rattle.hddl_names.proofs.declared_types.DeclaredTypes.has_type.Given as goal

abbrev pub invariant-loop-own : goal.invariant-loop-own
invariant-loop-own l = (k : ℕ) → k < l.own-index → Reaches (numbered_pairs l.types) (get_or (get_or l.self l.object []) k 0) l.of_type → ⊥
