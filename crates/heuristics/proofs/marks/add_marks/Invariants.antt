use Rattle.std.proofs.Common.{◌≤◌, length}
use Rattle.heuristics.proofs.MarkWords.{AreJoinedBelow}
use Rattle.heuristics.proofs.marks.add_marks.Given as goal

abbrev pub invariant-loop-k : goal.invariant-loop-k
invariant-loop-k l = record {
  count : l.k ≤ length l.marks.items;
  joined : AreJoinedBelow l.k l.initial.marks.items l.others l.marks.items;
}
