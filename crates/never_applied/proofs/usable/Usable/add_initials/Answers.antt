use Rattle.never_applied.proofs.Growing.{starts_next}
use Rattle.never_applied.proofs.usable.Usable.add_initials.Goals as goal

pub loop-initial-preserved : goal.loop-initial-preserved
loop-initial-preserved c =
    let did = c.in_ok-add_initial.ensures in
    starts_next c.loop-initial.self c.add_initial.new.self did.more c.args.fine.now c.args.initials.now c.loop-initial.initial-index c.initial-item.result c.loop-initial-test.true c.initial-item.is
    c.loop-initial.invariant did.there
