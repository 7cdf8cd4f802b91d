use Rattle.std.proofs.Common.{◌≡◌, drop}
use Rattle.std.specs.List.{list_all}
use Rattle.htn_ground.specs.Search.{constant_of}
use Rattle.htn_ground.proofs.instances.equality_constants_hold.Given as goal

abbrev pub invariant-loop-equality : goal.invariant-loop-equality
invariant-loop-equality l =
    list_all (λ e. constant_of e.is_positive e.left e.right) (drop l.equality-index l.equalities) ≡ list_all (λ e. constant_of e.is_positive e.left e.right) l.equalities
