use Rattle.heuristics.proofs.ReachLists.{all_taken}
use Rattle.never_applied.specs.Fine.{IsInstanceUsed}
use Rattle.never_applied.proofs.Growing.{instances_next, more_then}
use Rattle.never_applied.proofs.usable.Usable.add_instances.Goals as goal

pub loop-pair-preserved : goal.loop-pair-preserved
loop-pair-preserved c =
    let old = c.loop-pair.self in
    let new = c.add_instance.new.self in
    let did = c.in_ok-add_instance.ensures in
    record {
      more = more_then c.args.self.now old new c.loop-pair.invariant.more did.more;
      there = instances_next old new did.more c.args.fine.now c.args.instances.now c.loop-pair.pair-index c.pair-item.result c.loop-pair-test.true c.pair-item.is c.loop-pair.invariant.there did.there;
    }

pub returns-clause-there : goal.returns-clause-there
returns-clause-there c =
    all_taken (λ p. IsInstanceUsed c.args.fine.now c.loop-pair.self p.1) c.args.instances.now c.loop-pair.pair-index c.loop-pair-test.false c.loop-pair.invariant.there
