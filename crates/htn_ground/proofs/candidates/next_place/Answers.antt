use Rattle.std.proofs.Common.{get_or}
use Rattle.htn_ground.proofs.Excluded.{left_out_at}
use Rattle.htn_ground.proofs.candidates.next_place.Goals as goal

pub returns-then-next-from-clause-left_out : goal.returns-then-next-from-clause-left_out
returns-then-next-from-clause-left_out c k d late inside =
    left_out_at c.args.state.now c.args.all.now c.loop-candidates.candidates-index c.candidates-item.result c.args.values.now (get_or c.args.objects.now k d)
    c.loop-candidates-test.true c.candidates-item.is c.if-candidates-values.true (c.in_ok-next.ensures.excluded k d late inside)
