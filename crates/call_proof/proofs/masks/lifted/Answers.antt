use Rattle.call_proof.proofs.Masking.{masked_lift}
use Rattle.call_proof.proofs.Sets.{lifted_set}
use Rattle.call_proof.proofs.masks.lifted.Goals as goal

pub returns-clause-has : goal.returns-clause-has
returns-clause-has c = c.in_ok-whole.ensures.has

pub returns-clause-state : goal.returns-clause-state
returns-clause-state c = λ t table.
    masked_lift t table c.args.mask.now c.args.state.now c.args.part.now c.in_ok-whole.whole c.in_ok-whole.ensures.has

pub returns-clause-set : goal.returns-clause-set
returns-clause-set c = λ t.
    lifted_set t c.args.state.now c.args.mask.now c.args.part.now c.in_ok-whole.whole c.in_ok-whole.ensures.bits
    c.in_ok-whole.ensures.has
