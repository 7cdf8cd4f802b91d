use Rattle.std.proofs.Common.{IfSome, Option, subst, sym}
use Rattle.std.specs.List.{All}
use Rattle.std.proofs.lemmas.List.Elements.{All-push}
use Rattle.diagnostics.specs.declared.diagnostic.Note.{Note}
use Rattle.pair_messages.specs.Firsts.{IsNoteAt}
use Rattle.pair_messages.specs.Notes.{IsOfArgument}
use Rattle.pair_messages.specs.Stands.{use_of}
use Rattle.pair_messages.proofs.Questions.{all_listed}
use Rattle.pair_messages.proofs.compared.clash_notes.Goals as goal

pub returns : goal.returns
returns c =
    let t = c.args.index.now.texts.now in
    let u = c.args.used.now in
    let P = IsNoteAt t (IsOfArgument t.domain_tree.now t.problem_tree.now c.args.side u.kind (use_of u) c.args.position) in
    let last = subst (λ (o : Option Note). IfSome o P) c.in-Some.is c.in_ok-found.ensures in
    subst (All P) (sym c.in_ok-push.ensures.items)
    (All-push P c.in_ok-notes.notes.items c.in-Some.parameter (all_listed P c.in_ok-own.own c.in_ok-notes.notes.items c.in_ok-notes.ensures c.in_ok-own.ensures) last)
