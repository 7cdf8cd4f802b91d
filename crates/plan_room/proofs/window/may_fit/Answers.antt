use Rattle.std.proofs.Common.{◌∙◌, false, refl, sym}
use Rattle.std.proofs.lemmas.Bool.{both_ways}
use Rattle.plan_room.proofs.window.may_fit.Goals as goal

pub returns-then-subtask_count-children : goal.returns-then-subtask_count-children
returns-then-subtask_count-children g c = (
  (λ yes. absurd (both_ways false refl yes)),
  (λ both. absurd (c.if-subtask_count-children.true (c.subtask_count.ensures ∙ both.0))),
)

pub returns : goal.returns
returns g c = (
  (λ yes. (sym c.subtask_count.ensures ∙ c.if-subtask_count-children.false, c.steps_hold.ensures.0 yes)),
  (λ both. c.steps_hold.ensures.1 both.1),
)
