use Rattle.hddl_meaning.specs.Mentions.{folded}
use Rattle.pair_messages.specs.declared.firsts.Sort.TheVariants as sort
use Rattle.pair_messages.specs.Firsts.{IsNoteAt}
use Rattle.pair_messages.specs.Notes.{IsFirst}
use Rattle.pair_messages.proofs.Questions.{all_listed}
use Rattle.std.proofs.Common.{IfSome, subst}
use Rattle.pair_messages.proofs.notes.use_notes.Goals as goal

pub returns : goal.returns
returns c =
    let t = c.args.index.now.texts.now in
    let u = c.args.used.now in
    let P = IsNoteAt t (IsFirst t.domain_tree.now t.problem_tree.now (sort.Called u.kind) (folded u.atom.now.name.text)) in
    all_listed P c.in_ok-note.note c.in_ok-notes.notes.items c.in_ok-notes.ensures
    (subst (λ text. IfSome c.in_ok-note.note (IsNoteAt t (IsFirst t.domain_tree.now t.problem_tree.now (sort.Called u.kind) (folded text)))) c.text.ensures.value c.in_ok-note.ensures)
