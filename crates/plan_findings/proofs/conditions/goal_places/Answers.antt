use Rattle.plan_findings.proofs.Placed.{among_more}
use Rattle.plan_findings.proofs.conditions.goal_places.Goals as goal

pub loop-condition-preserved : goal.loop-condition-preserved
loop-condition-preserved c =
    among_more c.args.goal.now c.loop-condition.condition-index c.condition-item.result c.loop-condition.places.items c.push_places.new.places.items
    c.loop-condition-test.true c.condition-item.is c.loop-condition.invariant c.in_ok-push_places.ensures
