use Rattle.std.proofs.Common.{◌≡◌, ◌<◌, All, vec_len, map}
use Rattle.std.specs.Vec.Iter.{into_iter_items}
use Rattle.word_machine.specs.Workers.{IsWhole, HoldsPieces}
use Rattle.word_machine.proofs.Slots.{FullOrLeft}
use Rattle.word_machine.proofs.level_merge.lay.Given as goal

abbrev pub invariant-loop-piece : goal.invariant-loop-piece
invariant-loop-piece g l = record {
  whole : All (IsWhole (g.W.Expand.has_successors l.level.work.now) l.level.first l.level.last l.level.piece) (into_iter_items l.piece-iterator);
  below : All (λ p. p.number < vec_len l.slots) (into_iter_items l.piece-iterator);
  held : HoldsPieces (g.W.Expand.has_successors l.level.work.now) l.level.first l.level.last l.level.piece l.slots.items;
  full : FullOrLeft (map (λ p. p.number) l.fn.pieces.items) (into_iter_items l.piece-iterator) l.slots.items;
  len : vec_len l.slots ≡ vec_len l.initial.slots;
}
