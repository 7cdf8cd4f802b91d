use Rattle.std.proofs.Common.{◌≡◌, [], take}
use Rattle.std.specs.List.{filter}
use Rattle.htn_ground.specs.Search.{relation_singles}
use Rattle.htn_ground.proofs.counts.first_allowed.Given as goal

abbrev pub invariant-loop-object : goal.invariant-loop-object
invariant-loop-object l = filter (relation_singles l.relations l.values l.place) (take l.object-index l.objects) ≡ []
