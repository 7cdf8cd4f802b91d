use Rattle.std.proofs.Common.{◌≡◌, length}
use Rattle.plan_text.specs.FileText.{after_start}
use Rattle.plan_text.proofs.reader.skip_start.Given as goal

abbrev pub invariant-loop-line : goal.invariant-loop-line
invariant-loop-line l = after_start l.lines ≡ after_start l.fn.lines

abbrev pub decreases-loop-line : goal.decreases-loop-line
decreases-loop-line l = length l.lines
