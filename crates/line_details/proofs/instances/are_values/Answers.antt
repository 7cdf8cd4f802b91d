use Rattle.std.proofs.Common.{◌∙◌, ap, sym}
use Rattle.htn_model.specs.Instances.{ground_task, is_instance}
use Rattle.line_details.proofs.Numbered.{values_in}
use Rattle.line_details.proofs.instances.are_values.Goals as goal

pub returns : goal.returns
returns c = λ yes.
    let t = c.args.task.now in
    let values = c.args.values.now in
    values_in t c.args.goal.now c.args.method.now values (ap (ground_task values) (sym c.task.ensures) ∙ c.in_ok-is_goal.ensures c.if-not-branch.false)
    (ap (λ k. is_instance t k values) (sym c.in_ok-conditions.ensures) ∙ sym c.is_instance.ensures ∙ yes)
