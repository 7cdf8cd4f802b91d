use Rattle.std.proofs.Common.{◌≡◌, get_or, length}
use Rattle.plan_room.specs.Ranks.{AreStarts, levels}
use Rattle.plan_room.proofs.sequence.by_rank.Given as goal

abbrev pub invariant-loop-rank : goal.invariant-loop-rank
invariant-loop-rank l = record {
  sequence : l.sequence.items ≡ levels (λ a. get_or l.ranks a 0) (length l.ranks) l.rank;
  starts : AreStarts (λ a. get_or l.ranks a 0) (length l.ranks) l.rank l.starts.items;
}
