use Rattle.plan_lines.specs.First.{HasNoneBefore}
use Rattle.plan_lines.specs.Words.{Fails}
use Rattle.plan_lines.proofs.action.first_failing.Given as goal

abbrev pub invariant-loop-number : goal.invariant-loop-number
invariant-loop-number l = HasNoneBefore (Fails l.values) l.formulas l.number
