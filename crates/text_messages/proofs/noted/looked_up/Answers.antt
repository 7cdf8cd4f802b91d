use Rattle.std.proofs.Common.{subst, sym}
use Rattle.std.specs.List.{All}
use Rattle.std.proofs.lemmas.List.Elements.{All-push}
use Rattle.text_messages.specs.Notes.{IsNote}
use Rattle.text_messages.proofs.noted.looked_up.Goals as goal

pub loop-note-preserved-in-Continue-branch-2 : goal.loop-note-preserved-in-Continue-branch-2
loop-note-preserved-in-Continue-branch-2 c =
    subst (All (λ note. IsNote c.args.source.now c.args.fault note.spot)) (sym c.in_ok-push.ensures.items)
    (All-push (λ note. IsNote c.args.source.now c.args.fault note.spot) c.loop-note.noted.items _ c.loop-note.invariant c.in-Some-noted_spot.ensures)
