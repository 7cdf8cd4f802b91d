use Rattle.std.proofs.Common.{◌≡◌, ◌++◌, map, filter, not, take}
use Rattle.serde_json.specs.View.{view}
use Rattle.diagnostics.specs.Json.{remark_json, is_help}
use Rattle.diagnostics.proofs.as_json.push_remarks.Given as goal

-- those so far
abbrev pub invariant-loop-remark : goal.invariant-loop-remark
invariant-loop-remark l = map view l.list.items ≡ map view l.initial.list.items ++ map remark_json (filter (λ r. not (is_help r.kind)) (take l.remark-index l.remarks))
