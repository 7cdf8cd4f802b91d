use Rattle.std.proofs.Common.{◌≡◌, ◌++◌, Contains, flat_map}
use Rattle.std.specs.Vec.Iter.{into_iter_items}
use Rattle.word_machine.specs.Workers.{places_of}
use Rattle.word_machine.proofs.level_merge.finish_at.Given as goal

-- the place is that of a piece to come
abbrev pub invariant-loop-piece : goal.invariant-loop-piece
invariant-loop-piece g l = record {
  left : Contains (flat_map (λ p. places_of p.outcome) (into_iter_items l.piece-iterator)) l.place;
  whole : l.yielded ++ into_iter_items l.piece-iterator ≡ l.fn.pieces.items;
}
