use Rattle.call_proof.proofs.Masking.{masks_united}
use Rattle.call_proof.proofs.Sets.{united_has}
use Rattle.call_proof.proofs.masks.united.Goals as goal

pub returns-clause-has : goal.returns-clause-has
returns-clause-has c =
    united_has c.args.one.now c.args.other.now c.in_ok-both.both c.in_ok-both.ensures.has

pub returns-clause-frame : goal.returns-clause-frame
returns-clause-frame c = λ t a table.
    masks_united t table c.args.one.now c.args.other.now c.in_ok-both.both
    (united_has c.args.one.now c.args.other.now c.in_ok-both.both c.in_ok-both.ensures.has) a
