use Rattle.std.proofs.Common.{◌+◌, ◌&&◌, eqb, length, sym, ap, ◌∙◌}
use Rattle.htn_ground.specs.Views.{child_view}
use Rattle.plan_room.proofs.Suited.{looked, same_place, suits_step}
use Rattle.plan_room.proofs.below.BelowChoices.suits.Goals as goal

pub returns-then-is_step : goal.returns-then-is_step
returns-then-is_step g c =
    let s = c.args.self.now in
    let l = g.L.PlanLines.lines s.lines.now in
    let network = s.instance.now.network in
    same_place l s.children.now network c.args.position c.args.choice c.if-choice-self.false
    ∙ sym (suits_step l s.children.now network c.args.position c.args.choice (child_view c.in-Some.child.now)
    (looked c.as_slice.result.now s.instance.now.network.children c.args.position c.in-Some.child.now (c.as_slice.ensures ∙ c.children.ensures)
    c.in-Some.ensures.lookup.0 c.in-Some.ensures.lookup.1) c.if-choice-self.false
    ∙ ap (λ b. b && eqb c.args.choice (length s.children.now + c.args.position)) (sym c.is_step.ensures ∙ c.if-is_step.true))

pub returns-else-is_step : goal.returns-else-is_step
returns-else-is_step g c =
    let s = c.args.self.now in
    let l = g.L.PlanLines.lines s.lines.now in
    let network = s.instance.now.network in
    c.if-is_step.false
    ∙ sym (suits_step l s.children.now network c.args.position c.args.choice (child_view c.in-Some.child.now)
    (looked c.as_slice.result.now s.instance.now.network.children c.args.position c.in-Some.child.now (c.as_slice.ensures ∙ c.children.ensures)
    c.in-Some.ensures.lookup.0 c.in-Some.ensures.lookup.1) c.if-choice-self.false
    ∙ ap (λ b. b && eqb c.args.choice (length s.children.now + c.args.position)) (sym c.is_step.ensures ∙ c.if-is_step.false))
