use Rattle.std.proofs.Common.{refl}
use Rattle.plan_room.proofs.Ranked.{pair_more}
use Rattle.plan_room.proofs.sequence.twice_numbered.Goals as goal

pub loop-position-preserved : goal.loop-position-preserved
loop-position-preserved c =
    let k = c.loop-position.position in
    let more = pair_more (λ i. (i, i)) k (k, k) c.loop-position.ahead.items c.push.new.self.items c.loop-position.invariant.size c.loop-position.invariant.each c.in_ok-push.ensures.items refl in
    record { size = more.0; each = more.1 }
