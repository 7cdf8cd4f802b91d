use Rattle.std.proofs.Common.{◌≡◌, map, take}
use Rattle.diagnostics.specs.Json.{count}
use Rattle.serde_json.specs.View.{view}
use Rattle.picture_text.proofs.as_json.actions_value.Given as goal

-- those so far
abbrev pub invariant-loop-action : goal.invariant-loop-action
invariant-loop-action l = map view l.list.items ≡ map (λ line. count line.id) (take l.action-index l.actions)
