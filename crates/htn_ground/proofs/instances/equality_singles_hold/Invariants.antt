use Rattle.std.proofs.Common.{◌≡◌, drop}
use Rattle.htn_ground.specs.Search.{equality_singles}
use Rattle.htn_ground.proofs.instances.equality_singles_hold.Given as goal

abbrev pub invariant-loop-equality : goal.invariant-loop-equality
invariant-loop-equality l = equality_singles (drop l.equality-index l.equalities) l.at l.object ≡ equality_singles l.equalities l.at l.object
