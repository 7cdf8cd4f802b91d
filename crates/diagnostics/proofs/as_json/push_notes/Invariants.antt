use Rattle.std.proofs.Common.{◌≡◌, ◌++◌, map, take}
use Rattle.serde_json.specs.View.{view}
use Rattle.diagnostics.specs.Json.{note_json}
use Rattle.diagnostics.proofs.as_json.push_notes.Given as goal

-- those so far
abbrev pub invariant-loop-note : goal.invariant-loop-note
invariant-loop-note l = map view l.list.items ≡ map view l.initial.list.items ++ map note_json (take l.note-index l.notes)
