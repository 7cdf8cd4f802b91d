use Rattle.std.proofs.Common.{◌≡◌, ℕ, ◌+◌, All, IsSome, vec_len}
use Rattle.std.specs.Vec.Iter.{into_iter_items, into_iter_len}
use Rattle.word_machine.specs.Joined.{joined}
use Rattle.word_machine.proofs.Slots.{HoldsFrom, AreOfPieces}
use Rattle.word_machine.proofs.level_merge.parts_of.Given as goal

abbrev pub invariant-loop-slot : goal.invariant-loop-slot
invariant-loop-slot g l =
    (n : ℕ)
    × record {
      counted : n + into_iter_len l.slot-iterator ≡ vec_len l.fn.slots;
      full : All IsSome (into_iter_items l.slot-iterator);
      held : HoldsFrom (g.W.Expand.has_successors l.level.work.now) l.level.first l.level.last l.level.piece n (into_iter_items l.slot-iterator);
      joined : AreOfPieces (g.W.Expand.has_successors l.level.work.now) l.level.first l.level.last l.level.piece n (joined l.parts.items);
    }
