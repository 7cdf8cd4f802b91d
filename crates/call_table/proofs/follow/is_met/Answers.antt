use Rattle.std.proofs.Common.{leb-true, arith}
use Rattle.call_table.proofs.Followed.{place_meets}
use Rattle.call_table.proofs.follow.is_met.Goals as goal

pub returns-in-Some : goal.returns-in-Some
returns-in-Some c = λ h.
    (let low = leb-true c.from-in-Some.result c.args.steps h in
    let is = c.from-in-Some.ensures in
    place_meets c.args.lists.now c.args.call.now c.args.places.now c.args.site c.in-Some.distance.now c.args.steps c.requires c.in-Some.ensures.value (omega arith))
