use Rattle.std.specs.List.{All}
use Rattle.diagnostics.specs.Near.{names_of}
use Rattle.pair_messages.specs.Firsts.{IsFirstNote}
use Rattle.pair_messages.proofs.notes.first_notes.Given as goal

-- those so far
abbrev pub invariant-loop-name : goal.invariant-loop-name
invariant-loop-name l = All (IsFirstNote l.index.texts.now l.sort (names_of l.names)) l.notes.items
