use Rattle.call_proof.specs.Parts.{masks_of}
use Rattle.call_proof.proofs.Lifting.{inside_at}
use Rattle.call_proof.proofs.parts.is_frame_inside.Goals as goal

pub returns : goal.returns
returns c = λ is n table.
    inside_at n.atoms (masks_of c.args.frames.now) c.args.inner c.args.outer c.in-Some.mask.now c.in-Some-mask.other.now
    c.in-Some.ensures c.in-Some-mask.ensures (c.is_inside.ensures.frames is n.atoms table)
