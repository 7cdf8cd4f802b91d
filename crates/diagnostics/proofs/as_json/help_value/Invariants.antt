use Rattle.std.proofs.Common.{◌≡◌, map, filter, take}
use Rattle.serde_json.specs.View.{view}
use Rattle.diagnostics.specs.Json.{message_json, is_help}
use Rattle.diagnostics.proofs.as_json.help_value.Given as goal

-- those so far
abbrev pub invariant-loop-remark : goal.invariant-loop-remark
invariant-loop-remark l = map view l.list.items ≡ map (λ r. message_json r.message.items) (filter (λ r. is_help r.kind) (take l.remark-index l.remarks))
