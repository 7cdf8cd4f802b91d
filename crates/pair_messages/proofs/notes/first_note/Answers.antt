use Rattle.std.proofs.Common.{◌∙◌, subst}
use Rattle.pair_messages.specs.Notes.{IsFirst}
use Rattle.pair_messages.proofs.notes.first_note.Goals as goal

pub returns : goal.returns
returns c =
    let t = c.args.index.now.texts.now in
    let at = c.in-Some.at in
    (at, subst (λ text. IsFirst t.domain_tree.now t.problem_tree.now c.args.sort text at) (c.as_slice.ensures ∙ c.in_ok-text.ensures) c.in-Some.ensures, c.note_at.ensures)
