use Rattle.std.proofs.Common.{◌≡◌, ◌∷◌, map, take}
use Rattle.serde_json.specs.View.{view}
use Rattle.picture_text.specs.Json.{word_json}
use Rattle.picture_text.proofs.as_json.task_value.Given as goal

-- those so far
abbrev pub invariant-loop-argument : goal.invariant-loop-argument
invariant-loop-argument l = map view l.list.items ≡ map word_json (l.name ∷ take l.argument-index l.arguments)
