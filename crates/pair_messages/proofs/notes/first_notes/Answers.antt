use Rattle.diagnostics.specs.Near.{names_of}
use Rattle.pair_messages.proofs.Questions.{name_at}
use Rattle.pair_messages.proofs.notes.first_notes.Goals as goal

pub loop-name-preserved : goal.loop-name-preserved
loop-name-preserved c =
    let names = c.args.names.now in
    c.in_ok-add_first_note.ensures (names_of names) (name_at names c.loop-name.name-index _ c.loop-name-test.true) c.loop-name.invariant
