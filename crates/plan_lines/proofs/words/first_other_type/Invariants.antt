use Rattle.std.specs.List.{zip}
use Rattle.plan_lines.specs.First.{HasNoneBefore}
use Rattle.plan_lines.specs.Words.{IsOtherType}
use Rattle.plan_lines.proofs.words.first_other_type.Given as goal

abbrev pub invariant-loop-place : goal.invariant-loop-place
invariant-loop-place l = HasNoneBefore (IsOtherType l.task) (zip l.types l.objects) l.place
