use Rattle.std.proofs.Common.{◌<◌, length}
use Rattle.plan_lines.proofs.joining.narrowest.Given as goal

abbrev pub invariant-loop-number : goal.invariant-loop-number
invariant-loop-number l = l.best < length l.schemas
