use Rattle.std.proofs.Common.{◌≡◌, ◌++◌, take}
use Rattle.std.specs.List.{flat_map}
use Rattle.diagnostics.specs.Ink.{written}
use Rattle.diagnostics.specs.Parts.{note_inks}
use Rattle.diagnostics.proofs.text.say_notes.Given as goal

-- what is written so far
abbrev pub invariant-loop-note : goal.invariant-loop-note
invariant-loop-note l = l.out.items ≡ l.initial.out.items ++ written l.colour (flat_map note_inks (take l.note-index l.notes))
