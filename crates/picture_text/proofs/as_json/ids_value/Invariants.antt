use Rattle.std.proofs.Common.{◌≡◌, map, take}
use Rattle.diagnostics.specs.Json.{count}
use Rattle.serde_json.specs.View.{view}
use Rattle.picture_text.specs.Lines.{id_at}
use Rattle.picture_text.proofs.as_json.ids_value.Given as goal

-- those so far
abbrev pub invariant-loop-number : goal.invariant-loop-number
invariant-loop-number l = map view l.list.items ≡ map (λ line. count (id_at l.file line)) (take l.number-index l.numbers)
