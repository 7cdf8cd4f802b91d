use Rattle.std.proofs.Common.{◌≡◌, false, take}
use Rattle.std.specs.List.{flat_map}
use Rattle.diagnostics.specs.Ink.{written}
use Rattle.diagnostics.specs.Written.{head_inks}
use Rattle.diagnostics.proofs.report.short_report.Given as goal

-- the first lines so far
abbrev pub invariant-loop-diagnostic : goal.invariant-loop-diagnostic
invariant-loop-diagnostic l = l.out.items ≡ written false (flat_map head_inks (take l.diagnostic-index l.diagnostics))
