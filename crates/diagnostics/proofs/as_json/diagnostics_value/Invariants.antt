use Rattle.std.proofs.Common.{◌≡◌, map, take}
use Rattle.serde_json.specs.View.{view}
use Rattle.diagnostics.specs.Json.{diagnostic_json}
use Rattle.diagnostics.proofs.as_json.diagnostics_value.Given as goal

-- those so far
abbrev pub invariant-loop-diagnostic : goal.invariant-loop-diagnostic
invariant-loop-diagnostic l = map view l.list.items ≡ map diagnostic_json (take l.diagnostic-index l.diagnostics)
