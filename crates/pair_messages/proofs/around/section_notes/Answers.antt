use Rattle.pair_messages.specs.Firsts.{IsNoteAt}
use Rattle.pair_messages.specs.Notes.{IsSectionAround}
use Rattle.pair_messages.proofs.Questions.{all_listed}
use Rattle.pair_messages.proofs.around.section_notes.Goals as goal

pub returns : goal.returns
returns c =
    let t = c.args.index.now.texts.now in
    all_listed (IsNoteAt t (IsSectionAround t.domain_tree.now t.problem_tree.now c.args.at)) c.in_ok-note.note c.in_ok-notes.notes.items c.in_ok-notes.ensures c.in_ok-note.ensures
