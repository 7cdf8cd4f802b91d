use Rattle.std.proofs.Common.{◌≡◌, [], replicate}
use Rattle.plan_room.specs.Ranks.{lists_of}
use Rattle.plan_room.proofs.sequence.empty_lists.Given as goal

abbrev pub invariant-loop-i : goal.invariant-loop-i
invariant-loop-i l = lists_of l.lists.items ≡ replicate l.i []
