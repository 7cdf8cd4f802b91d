use Rattle.std.proofs.Common.{arith}
use Rattle.plan_room.proofs.bound.raise_bound.Goals as goal

pub loop-bound-preserved : goal.loop-bound-preserved
loop-bound-preserved g c h all =
    let low = c.loop-bound.invariant h all in
    let own = c.in-At.ensures.known.least h (all.1 c.loop-bound.bound.seen c.loop-bound-test.true) in
    let greater = c.max-bound.ensures in
    omega arith
