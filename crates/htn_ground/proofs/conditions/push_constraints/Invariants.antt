use Rattle.std.proofs.Common.{◌≡◌, ◌++◌, take}
use Rattle.htn_ground.proofs.conditions.push_constraints.Given as goal

abbrev pub invariant-loop-equality : goal.invariant-loop-equality
invariant-loop-equality l = l.equalities.items ≡ l.initial.equalities.items ++ take l.equality-index l.constraints
