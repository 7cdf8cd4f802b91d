use Rattle.std.proofs.Common.{◌≡◌, ◌++◌}
use Rattle.std.specs.Vec.Iter.{into_iter_items}
use Rattle.network_table.specs.Interning.{AreApart, HasInterned}
use Rattle.network_table.proofs.interner.Interner.intern_all.Given as goal

-- the values so far have numbers
abbrev pub invariant-loop-value : goal.invariant-loop-value
invariant-loop-value g l = record {
  whole : l.yielded ++ into_iter_items l.value-iterator ≡ l.fn.batch.items;
  interned : HasInterned g.T.PartialEq.eq l.yielded l.fn.self l.self l.numbers.items;
  apart : AreApart g.T.PartialEq.eq l.fn.self → AreApart g.T.PartialEq.eq l.self;
}
