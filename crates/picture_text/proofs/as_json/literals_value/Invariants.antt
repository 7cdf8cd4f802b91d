use Rattle.std.proofs.Common.{◌≡◌, map, take}
use Rattle.plan_text.specs.Forest.{lists_of}
use Rattle.serde_json.specs.View.{view}
use Rattle.picture_text.specs.Json.{word_json}
use Rattle.picture_text.proofs.as_json.literals_value.Given as goal

-- those so far
abbrev pub invariant-loop-literal : goal.invariant-loop-literal
invariant-loop-literal l = map view l.list.items ≡ map word_json (lists_of (take l.literal-index l.literals))
