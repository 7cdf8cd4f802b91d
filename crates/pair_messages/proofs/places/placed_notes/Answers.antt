use Rattle.std.proofs.Common.{subst}
use Rattle.std.proofs.lemmas.List.Elements.{All-weaker}
use Rattle.hddl_meaning.specs.declared.fault.CheckFault.TheVariants as fault
use Rattle.pair_messages.specs.Firsts.{IsNoteAt}
use Rattle.pair_messages.specs.Notes.{IsNote, IsOfArgument}
use Rattle.pair_messages.specs.Stands.{StandsAt, use_of}
use Rattle.pair_messages.proofs.places.placed_notes.Goals as goal

pub returns-in_ok-placed-in-Argument : goal.returns-in_ok-placed-in-Argument
returns-in_ok-placed-in-Argument c = λ here.
    let t = c.args.index.now.texts.now in
    let d = t.domain_tree.now in
    let p = t.problem_tree.now in
    let u = c.in-Argument.used in
    let k = c.in-Argument.position in
    let (s, among, at) = subst (StandsAt d p c.args.at) c.in-Argument.is here in
    All-weaker (IsNoteAt t (IsOfArgument d p c.args.at.source u.kind (use_of u) k)) (IsNote t (fault.TypeClash c.args.at) c.args.remarks.now)
    (λ n h. (h.0, (s, u.kind, use_of u, k, among, at.0, at.1, h.1), h.2)) c.in_ok-placed-in-Argument.placed.items c.in_ok-placed-in-Argument.ensures
