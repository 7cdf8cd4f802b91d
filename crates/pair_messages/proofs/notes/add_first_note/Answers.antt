use Rattle.std.proofs.Common.{IfSome, Option, subst, sym}
use Rattle.std.specs.List.{All}
use Rattle.std.proofs.lemmas.List.Elements.{All-push}
use Rattle.diagnostics.specs.declared.diagnostic.Note.{Note}
use Rattle.hddl_meaning.specs.Mentions.{folded}
use Rattle.pair_messages.specs.Firsts.{IsFirstNote, IsNoteAt}
use Rattle.pair_messages.specs.Notes.{IsFirst}
use Rattle.pair_messages.proofs.notes.add_first_note.Goals as goal

pub returns-in_ok-push : goal.returns-in_ok-push
returns-in_ok-push c = λ names at old.
    let t = c.args.index.now.texts.now in
    let name = c.args.name.now in
    let note = c.in-Some.note in
    let one = subst (λ (o : Option Note). IfSome o (IsNoteAt t (IsFirst t.domain_tree.now t.problem_tree.now c.args.sort (folded name)))) c.in-Some.is c.in_ok-found.ensures in
    subst (All (IsFirstNote t c.args.sort names)) (sym c.in_ok-push.ensures.items)
    (All-push (IsFirstNote t c.args.sort names) c.args.notes.now.items note old (one.0, (name, at, one.1), one.2))
