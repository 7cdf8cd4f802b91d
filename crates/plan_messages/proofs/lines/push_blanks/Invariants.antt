use Rattle.std.proofs.Common.{◌≡◌, ◌++◌}
use Rattle.plan_messages.specs.RunText.{blanks}
use Rattle.plan_messages.proofs.lines.push_blanks.Given as goal

abbrev pub invariant-loop-pushed : goal.invariant-loop-pushed
invariant-loop-pushed l = l.text.items ≡ l.initial.text.items ++ blanks l.pushed
