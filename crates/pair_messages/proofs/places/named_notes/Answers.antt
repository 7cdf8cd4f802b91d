use Rattle.std.proofs.Common.{subst}
use Rattle.std.proofs.lemmas.List.Elements.{All-weaker}
use Rattle.hddl_meaning.specs.Mentions.{folded}
use Rattle.hddl_meaning.specs.declared.fault.CheckFault.TheVariants as fault
use Rattle.pair_messages.specs.declared.firsts.Sort.TheVariants as sort
use Rattle.pair_messages.specs.Firsts.{IsNoteAt}
use Rattle.pair_messages.specs.Notes.{IsFirst, IsNote}
use Rattle.pair_messages.specs.Stands.{StandsAt, use_of}
use Rattle.pair_messages.proofs.places.named_notes.Goals as goal

pub returns-in_ok-named-in-Name : goal.returns-in_ok-named-in-Name
returns-in_ok-named-in-Name c = λ here.
    let t = c.args.index.now.texts.now in
    let u = c.in-Name.used in
    let (s, among, at) = subst (StandsAt t.domain_tree.now t.problem_tree.now c.args.at) c.in-Name.is here in
    All-weaker (IsNoteAt t (IsFirst t.domain_tree.now t.problem_tree.now (sort.Called u.kind) (folded u.atom.now.name.text))) (IsNote t (fault.Arity c.args.at) c.args.remarks.now)
    (λ n h. (h.0, (u.kind, use_of u, (s, among, at.0, at.1), h.1), h.2)) c.in_ok-named-in-Name.named.items c.in_ok-named-in-Name.ensures
