use Rattle.call_proof.proofs.Masking.{masks_inside}
use Rattle.call_proof.proofs.masks.is_inside.Goals as goal

pub returns-clause-numbers : goal.returns-clause-numbers
returns-clause-numbers c = c.is_inside.ensures

pub returns-clause-frames : goal.returns-clause-frames
returns-clause-frames c = λ is t table.
    masks_inside t table c.args.inner.now c.args.outer.now (c.is_inside.ensures is)
