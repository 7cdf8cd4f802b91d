use Rattle.std.specs.Prelude.{IfSome}
use Rattle.never_applied.specs.Stages.{IsStage}
use Rattle.never_applied.proofs.stages.last_step.Given as goal

abbrev pub invariant-loop : goal.invariant-loop
invariant-loop l = IfSome l.found (λ s. IsStage l.task s.stage)
