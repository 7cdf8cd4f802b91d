use Rattle.std.proofs.Common.{◌++◌, Option, subst, sym}
use Rattle.std.specs.List.{AllZip}
use Rattle.diagnostics.specs.declared.diagnostic.Note.{Note}
use Rattle.pair_messages.specs.Firsts.{listed}
use Rattle.pair_messages.specs.Notes.{IsAtOrdering, ordering_of}
use Rattle.pair_messages.proofs.Cycles.{noted_one}
use Rattle.pair_messages.proofs.around.add_pair_note.Goals as goal

pub returns-in_ok-push : goal.returns-in_ok-push
returns-in_ok-push c = λ before old.
    let R = IsAtOrdering c.args.index.now.texts.now c.args.text in
    let pair = c.args.pair in
    subst (AllZip R (before ++ ordering_of pair)) (sym c.in_ok-push.ensures.items)
    (noted_one R before c.args.notes.now.items pair c.in-Some.note old
    (subst (λ (o : Option Note). AllZip R (ordering_of pair) (listed o)) c.in-Some.is c.in_ok-found.ensures))
