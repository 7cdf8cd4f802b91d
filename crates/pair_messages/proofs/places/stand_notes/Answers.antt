use Rattle.std.proofs.Common.{inl, subst}
use Rattle.std.proofs.lemmas.List.Elements.{All-weaker}
use Rattle.hddl_meaning.specs.declared.fault.CheckFault.TheVariants as fault
use Rattle.diagnostics.specs.Offers.{offered}
use Rattle.pair_messages.specs.declared.firsts.Sort.TheVariants as sort
use Rattle.pair_messages.specs.Firsts.{IsFirstNote}
use Rattle.pair_messages.specs.Notes.{IsNote}
use Rattle.pair_messages.specs.Stands.{StandsAt, use_of}
use Rattle.pair_messages.proofs.places.stand_notes.Goals as goal

pub returns-in_ok-names-in-Name : goal.returns-in_ok-names-in-Name
returns-in_ok-names-in-Name c = λ here.
    let t = c.args.index.now.texts.now in
    let u = c.in-Name.used in
    let (s, among, at) = subst (StandsAt t.domain_tree.now t.problem_tree.now c.args.at) c.in-Name.is here in
    All-weaker (IsFirstNote t (sort.Called u.kind) (offered c.args.remarks.now)) (IsNote t (fault.UnknownName c.args.at) c.args.remarks.now)
    (λ n h. (h.0, inl (u.kind, use_of u, (s, among, at.0, at.1), h.1), h.2)) c.in_ok-names-in-Name.names.items c.in_ok-names-in-Name.ensures
