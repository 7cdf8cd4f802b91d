use Rattle.std.proofs.Common.{◌++◌, take, ◌∙◌}
use Rattle.plan_text.proofs.Taken.{appends_more, regrouped}
use Rattle.plan_text.proofs.writer.put_all.Goals as goal

pub loop-rest-preserved : goal.loop-rest-preserved
loop-rest-preserved g c =
    let before = c.loop-rest.invariant in
    let count = c.in-Some.count in
    let rest = c.loop-rest.rest.now in
    (before.0 ++ take count rest, regrouped _ before.0 rest count before.1, appends_more _ _ _ _ _ before.2 c.in-Some.ensures.taken, c.in-Some.ensures.works ∙ before.3)
