use Rattle.std.proofs.Common.{IfSome, Option, subst}
use Rattle.hddl_meaning.specs.declared.fault.At.{At}
use Rattle.pair_messages.specs.Notes.{IsTwin}
use Rattle.pair_messages.proofs.notes.twin_note.Goals as goal

pub returns : goal.returns
returns c =
    (c.in-Some.first, subst (λ (o : Option At). IfSome o (IsTwin c.args.index.now.texts.now c.args.at)) c.in-Some.is c.in_ok-found.ensures, c.note_at.ensures)
