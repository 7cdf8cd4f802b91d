use Rattle.std.proofs.Common.{length, ◌-◌, ◌∙◌}
use Rattle.htn_ground.specs.Views.{child_view}
use Rattle.plan_room.proofs.Suited.{looked, step_finishes}
use Rattle.plan_room.proofs.below.BelowChoices.finish.Goals as goal

pub returns-clause-known : goal.returns-clause-known
returns-clause-known g c =
    let s = c.args.self.now in
    step_finishes (g.L.PlanLines.lines s.lines.now) s.children.now s.instance.now.network c.args.choice c.args.start (child_view c.in-Some.child.now) c.step_finish.result c.if-choice-self.false
    (looked c.as_slice.result.now s.instance.now.network.children (c.args.choice - length s.children.now) c.in-Some.child.now (c.as_slice.ensures ∙ c.children.ensures)
    c.in-Some.ensures.lookup.0 c.in-Some.ensures.lookup.1)
    c.step_finish.ensures.known
