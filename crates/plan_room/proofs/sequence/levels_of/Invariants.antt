use Rattle.std.proofs.Common.{get_or, length}
use Rattle.plan_room.specs.Ranks.{AreLevels, lists_of}
use Rattle.plan_room.proofs.sequence.levels_of.Given as goal

abbrev pub invariant-loop-position : goal.invariant-loop-position
invariant-loop-position l = AreLevels (λ a. get_or l.ranks a 0) (length l.ranks) l.position (lists_of l.levels.items)
