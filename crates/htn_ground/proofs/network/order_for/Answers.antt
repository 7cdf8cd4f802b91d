use Rattle.std.proofs.Common.{◌∙◌, ap, cond}
use Rattle.htn_model.specs.Instances.{step_first}
use Rattle.htn_ground.proofs.FirstStep.{with_first_is}
use Rattle.htn_ground.proofs.network.order_for.Goals as goal

pub returns : goal.returns
returns c =
    let order = c.args.network.now.order in
    c.in_ok-longer.ensures
    ∙ with_first_is c.order-order.result.now c.size-size.ensures.square
    ∙ ap step_first c.order-order.ensures
    ∙ ap (λ b. cond b (step_first order) order) c.if-not-has_step.ensures
