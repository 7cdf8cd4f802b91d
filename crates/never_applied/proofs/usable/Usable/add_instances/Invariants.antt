use Rattle.std.proofs.Common.{All, take}
use Rattle.never_applied.specs.Fine.{IsInstanceUsed, IsMore}
use Rattle.never_applied.proofs.usable.Usable.add_instances.Given as goal

abbrev pub invariant-loop-pair : goal.invariant-loop-pair
invariant-loop-pair l = record {
  more : IsMore l.initial.self l.self;
  there : All (λ p. IsInstanceUsed l.fine l.self p.1) (take l.pair-index l.instances);
}
