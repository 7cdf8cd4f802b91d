use Rattle.std.proofs.Common.{◌≡◌, length, take}
use Rattle.std.specs.List.{filter}
use Rattle.htn_ground.specs.Search.{relation_singles}
use Rattle.htn_ground.proofs.counts.count_allowed.Given as goal

-- what the relations so far allow is counted
abbrev pub invariant-loop-number : goal.invariant-loop-number
invariant-loop-number l = l.count ≡ length (filter (relation_singles (take l.number l.relations) l.values l.place) l.objects)
