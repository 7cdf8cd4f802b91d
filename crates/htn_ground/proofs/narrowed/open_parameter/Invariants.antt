use Rattle.std.proofs.Common.{IfSome, length, ◌<◌}
use Rattle.htn_ground.proofs.narrowed.open_parameter.Given as goal

abbrev pub invariant-loop-term : goal.invariant-loop-term
invariant-loop-term l = IfSome l.found (λ p. p < length l.domains)
