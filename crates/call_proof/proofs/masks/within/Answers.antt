use Rattle.call_proof.proofs.Masking.{masked}
use Rattle.call_proof.proofs.Sets.{within_has, within_set}
use Rattle.call_proof.proofs.masks.within.Goals as goal

pub returns-clause-has : goal.returns-clause-has
returns-clause-has c =
    within_has c.args.state.now c.args.mask.now c.new.result c.in_ok-part.part c.new.ensures c.in_ok-part.ensures.has

pub returns-clause-state : goal.returns-clause-state
returns-clause-state c = λ t table.
    masked t table c.args.mask.now c.args.state.now c.in_ok-part.part
    (within_has c.args.state.now c.args.mask.now c.new.result c.in_ok-part.part c.new.ensures c.in_ok-part.ensures.has)

pub returns-clause-set : goal.returns-clause-set
returns-clause-set c = λ t.
    within_set t c.args.state.now c.args.mask.now c.in_ok-part.part c.in_ok-part.ensures.bits
    (within_has c.args.state.now c.args.mask.now c.new.result c.in_ok-part.part c.new.ensures c.in_ok-part.ensures.has)
