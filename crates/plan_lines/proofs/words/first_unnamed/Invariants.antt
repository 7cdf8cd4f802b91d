use Rattle.plan_lines.specs.First.{HasNoneBefore}
use Rattle.plan_lines.specs.Words.{NamesNoObject}
use Rattle.plan_lines.proofs.words.first_unnamed.Given as goal

abbrev pub invariant-loop-place : goal.invariant-loop-place
invariant-loop-place l = HasNoneBefore (NamesNoObject l.task) l.words l.place
