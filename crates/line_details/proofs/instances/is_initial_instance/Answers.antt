use Rattle.std.proofs.Common.{◌∙◌, ap, sym}
use Rattle.htn_model.specs.Instances.{initial_conditions, is_instance}
use Rattle.line_details.proofs.Numbered.{initial_numbered}
use Rattle.line_details.proofs.instances.is_initial_instance.Goals as goal

pub returns : goal.returns
returns c = λ yes.
    let t = c.args.task.now in
    let i = c.args.instance.now in
    initial_numbered t i
    (ap (is_instance t (initial_conditions t t.initial_network)) (sym c.values.ensures)
    ∙ ap (λ k. is_instance t k c.values.result.now) (sym (c.in_ok-conditions.ensures ∙ ap (initial_conditions t) c.initial_network.ensures.value))
    ∙ sym c.is_instance.ensures ∙ c.if-not-is_instance.false)
    (c.in_ok-is_made.ensures yes)
