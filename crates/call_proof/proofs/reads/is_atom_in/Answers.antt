use Rattle.std.proofs.Common.{◌∙◌, sym}
use Rattle.call_proof.proofs.Masking.{framed_at}
use Rattle.call_proof.proofs.NodeFrames.{none_in}
use Rattle.call_proof.proofs.reads.is_atom_in.Goals as goal

pub returns-in-None : goal.returns-in-None
returns-in-None c =
    none_in c.args.atoms.now c.in-None.ensures.table c.args.mask.now c.args.atom.now
    (sym c.is_fluent.ensures ∙ c.if-not-is_fluent.false) c.in-None.ensures.none

pub returns-in-Some : goal.returns-in-Some
returns-in-Some c =
    c.contains.ensures
    ∙ sym (framed_at c.args.atoms.now c.in-Some.ensures.table c.args.mask.now c.args.atom.now c.in-Some.number
    c.in-Some.ensures.some)
