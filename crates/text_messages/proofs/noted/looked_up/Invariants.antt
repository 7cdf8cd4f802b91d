use Rattle.std.specs.List.{All}
use Rattle.text_messages.specs.Notes.{IsNote}
use Rattle.text_messages.proofs.noted.looked_up.Given as goal

abbrev pub invariant-loop-note : goal.invariant-loop-note
invariant-loop-note l = All (λ note. IsNote l.source l.fault note.spot) l.noted.items
