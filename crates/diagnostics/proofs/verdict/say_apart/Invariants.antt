use Rattle.std.proofs.Common.{◌≡◌, ◌++◌, take}
use Rattle.std.specs.List.{flat_map}
use Rattle.diagnostics.specs.Ink.{written}
use Rattle.diagnostics.specs.Verdicts.{apart_inks}
use Rattle.diagnostics.proofs.verdict.say_apart.Given as goal

-- what is written so far
abbrev pub invariant-loop-diagnostic : goal.invariant-loop-diagnostic
invariant-loop-diagnostic l = l.out.items ≡ l.initial.out.items ++ written l.colour (flat_map apart_inks (take l.diagnostic-index l.diagnostics))
