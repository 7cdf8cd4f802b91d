use Rattle.std.proofs.Common.{◌≡◌, ◌++◌, take}
use Rattle.std.specs.List.{flat_map}
use Rattle.diagnostics.specs.Ink.{written}
use Rattle.diagnostics.specs.Written.{summary_inks}
use Rattle.diagnostics.proofs.report.say_summary.Given as goal

-- what is written so far
abbrev pub invariant-loop-line : goal.invariant-loop-line
invariant-loop-line l = l.out.items ≡ l.initial.out.items ++ written l.colour (flat_map summary_inks (take l.line-index l.summary))
