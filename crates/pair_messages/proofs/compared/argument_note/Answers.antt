use Rattle.std.proofs.Common.{◌≡◌, ◌∙◌, Some, IfSome, Option, ap, inl, length, refl, slice_get, subst, sym}
use Rattle.std.proofs.lemmas.Option.{slice_get_read}
use Rattle.hddl_meaning.specs.declared.fault.At.{At}
use Rattle.pair_messages.specs.Notes.{IsArgument}
use Rattle.pair_messages.specs.Stands.{in_force}
use Rattle.pair_messages.proofs.compared.argument_note.Goals as goal

pub returns : goal.returns
returns c =
    let t = c.args.index.now.texts.now in
    let u = c.args.used.now in
    let k = c.args.position in
    let x = c.in-Some.term.now in
    let xs = c.as_slice.result.now in
    let is : slice_get u.atom.now.terms k ≡ Some x =
    ap (λ l. slice_get l k) (sym c.as_slice.ensures) ∙ slice_get_read xs (length xs) k x refl c.in-Some.ensures.lookup.3.0 c.in-Some.ensures.lookup.1 in
    let own = subst (λ (o : Option At). IfSome o (IsArgument t.domain_tree.now t.problem_tree.now c.args.side (in_force u.scope) x)) c.in-Some-found.is c.in_ok-found.ensures in
    (c.in-Some-found.at, (x, is, inl own), c.note_at.ensures)
