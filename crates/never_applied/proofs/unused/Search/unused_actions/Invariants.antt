use Rattle.std.proofs.Common.{All}
use Rattle.never_applied.specs.Stages.{IsActionUnused}
use Rattle.never_applied.proofs.unused.Search.unused_actions.Given as goal

abbrev pub invariant-loop-candidate : goal.invariant-loop-candidate
invariant-loop-candidate l = All (λ x. IsActionUnused l.self.task.now l.self.usable.now x.place) l.unused.items
