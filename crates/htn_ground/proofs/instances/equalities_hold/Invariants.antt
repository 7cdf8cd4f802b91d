use Rattle.std.proofs.Common.{◌≡◌, drop}
use Rattle.std.specs.List.{list_all}
use Rattle.htn_model.specs.Instances.{equality_holds}
use Rattle.htn_ground.proofs.instances.equalities_hold.Given as goal

abbrev pub invariant-loop-equality : goal.invariant-loop-equality
invariant-loop-equality l = list_all (equality_holds l.values) (drop l.equality-index l.equalities) ≡ list_all (equality_holds l.values) l.equalities
