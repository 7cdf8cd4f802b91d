use Rattle.std.proofs.Common.{◌≡◌, take}
use Rattle.plan_lines.specs.Allowed.{values_of}
use Rattle.plan_lines.proofs.completion.values_of.Given as goal

abbrev pub invariant-loop-value : goal.invariant-loop-value
invariant-loop-value l = l.values ≡ values_of (take l.value-index l.given)
