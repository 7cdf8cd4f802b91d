use Rattle.std.proofs.Common.{All}
use Rattle.never_applied.specs.Stages.{IsMethodUnused}
use Rattle.never_applied.proofs.unused.Search.unused_methods.Given as goal

abbrev pub invariant-loop-candidate : goal.invariant-loop-candidate
invariant-loop-candidate l = All (λ x. IsMethodUnused l.self.usable.now x.place) l.unused.items
