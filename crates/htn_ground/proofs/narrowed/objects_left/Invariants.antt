use Rattle.std.proofs.Common.{get_or, take, true, ◌≡◌}
use Rattle.std.specs.List.{filter}
use Rattle.htn_ground.proofs.narrowed.objects_left.Given as goal

abbrev pub invariant-loop-object : goal.invariant-loop-object
invariant-loop-object l = l.left ≡ filter (λ o. get_or l.marks o true) (take l.object-index l.objects)
