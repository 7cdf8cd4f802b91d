use Rattle.std.proofs.Common.{◌≡◌, []}
use Rattle.std.specs.Vec.Iter.{into_iter_items, into_iter_len}
use Rattle.word_machine.specs.Joined.{joined}
use Rattle.word_machine.proofs.chain.ChainIterator.next.Given as goal

-- the vectors before are empty
abbrev pub invariant-loop-more : goal.invariant-loop-more
invariant-loop-more g l = record {
  first : into_iter_items l.self-inside.first ≡ [];
  rest : joined (into_iter_items l.self-inside.rest) ≡ joined (into_iter_items l.initial.self-inside.rest);
}

abbrev pub decreases-loop-more : goal.decreases-loop-more
decreases-loop-more g l = into_iter_len l.self-inside.rest
