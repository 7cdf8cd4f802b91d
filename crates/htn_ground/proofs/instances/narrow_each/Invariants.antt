use Rattle.std.proofs.Common.{◌≡◌, take}
use Rattle.std.specs.List.{filter}
use Rattle.htn_ground.specs.Search.{singles_of}
use Rattle.htn_ground.proofs.instances.narrow_each.Given as goal

abbrev pub invariant-loop-object : goal.invariant-loop-object
invariant-loop-object l = l.kept ≡ filter (singles_of l.task l.conditions l.at) (take l.object-index l.objects)
