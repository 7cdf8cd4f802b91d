use Rattle.std.proofs.Common.{inl, inr}
use Rattle.std.proofs.lemmas.List.Elements.{All-weaker}
use Rattle.hddl_meaning.specs.declared.fault.CheckFault.TheVariants as fault
use Rattle.diagnostics.specs.Offers.{offered}
use Rattle.pair_messages.specs.declared.firsts.Sort.TheVariants as sort
use Rattle.pair_messages.specs.Firsts.{IsFirstNote, IsNoteAt}
use Rattle.pair_messages.specs.Notes.{IsNote, IsSectionAround}
use Rattle.pair_messages.proofs.places.term_notes.Goals as goal

pub returns-in_ok-around-in-Variable : goal.returns-in_ok-around-in-Variable
returns-in_ok-around-in-Variable c =
    let t = c.args.index.now.texts.now in
    All-weaker (IsNoteAt t (IsSectionAround t.domain_tree.now t.problem_tree.now c.args.at)) (IsNote t (fault.UnknownName c.args.at) c.args.remarks.now) (λ n h. (h.0, inr (inr h.1), h.2))
    c.in_ok-around-in-Variable.around.items c.in_ok-around-in-Variable.ensures

pub returns-in_ok-objects-in-Object : goal.returns-in_ok-objects-in-Object
returns-in_ok-objects-in-Object c =
    let t = c.args.index.now.texts.now in
    All-weaker (IsFirstNote t sort.Object (offered c.args.remarks.now)) (IsNote t (fault.UnknownName c.args.at) c.args.remarks.now) (λ n h. (h.0, inr (inl h.1), h.2))
    c.in_ok-objects-in-Object.objects.items c.in_ok-objects-in-Object.ensures
