use Rattle.std.proofs.Common.{◌≡◌, None, replicate}
use Rattle.plan_lines.proofs.instances.no_values.Given as goal

abbrev pub invariant-loop-parameter : goal.invariant-loop-parameter
invariant-loop-parameter l = l.given.items ≡ replicate l.parameter-index None
