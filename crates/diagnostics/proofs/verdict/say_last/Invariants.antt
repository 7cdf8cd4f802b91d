use Rattle.std.proofs.Common.{◌≡◌, ◌++◌, take}
use Rattle.std.specs.List.{flat_map}
use Rattle.diagnostics.specs.Ink.{written}
use Rattle.diagnostics.specs.Verdicts.{last_inks}
use Rattle.diagnostics.proofs.verdict.say_last.Given as goal

-- what is written so far
abbrev pub invariant-loop-line : goal.invariant-loop-line
invariant-loop-line l = l.out.items ≡ l.initial.out.items ++ written l.colour (flat_map last_inks (take l.line-index l.lines))
