use Rattle.std.proofs.Common.{get_or}
use Rattle.plan_room.specs.Ranks.{ahead_of}
use Rattle.plan_room.proofs.Ranked.{pair_more}
use Rattle.plan_room.proofs.sequence.places_ahead.Goals as goal

pub loop-position-preserved : goal.loop-position-preserved
loop-position-preserved c =
    let k = c.loop-position.position in
    let more = pair_more (λ a. ahead_of (get_or c.args.ranks.now a 0) (get_or c.args.starts.now (get_or c.args.ranks.now a 0) 0)) k c.ahead_of.result c.loop-position.ahead.items c.push.new.self.items
    c.loop-position.invariant.size c.loop-position.invariant.each c.in_ok-push.ensures.items c.ahead_of.ensures in
    record { size = more.0; each = more.1 }
