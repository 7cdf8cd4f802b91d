use Rattle.std.proofs.Common.{◌≡◌, take}
use Rattle.heuristics.specs.ListedNeeds.{left_of}
use Rattle.heuristics.proofs.chained.ungiven.Given as goal

-- those of the ids so far
abbrev pub invariant-loop-id : goal.invariant-loop-id
invariant-loop-id l = l.left.items ≡ left_of l.needs l.place.spot l.wants l.own (take l.id-index l.ids)
